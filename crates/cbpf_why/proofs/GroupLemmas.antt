-- What one packet more does to what is kept of groups.
use Rattle.std.proofs.Common.{◌≡◌, ◌≢◌, ℕ, ◌+◌, ◌*◌, ◌<◌, List, [], ◌∷◌, ◌++◌, length, Option, Some, None, arith, refl, sym, ap, ◌∙◌, append-nil, length-append, get_or}
use Rattle.std.specs.Prelude.{Bool, true, false, filter, ◌==◌, ◌&&◌, if◌then◌else◌, slice_get, slice_set, IfSome, All}
use Rattle.std.proofs.lemmas.List.Elements.{filter-append, All-head, All-push, All-tail}
use Rattle.std.proofs.lemmas.List.Sums.{length-filter, count_by-le-length}
use Rattle.std.proofs.lemmas.List.{get_or-set_other, length-set}
use Rattle.std.proofs.lemmas.Grind.{get_or-set_at}
use Rattle.std.proofs.lemmas.Option.{slice_get-get_or, get_or_from_slice_get}
use Rattle.cbpf_machine.specs.declared.follow.Choice.{Choice}
use Rattle.cbpf_why.specs.declared.ended.EndedBy.{EndedBy}
use Rattle.cbpf_why.specs.declared.ended.Verdict.{Verdict}
use Rattle.cbpf_why.specs.declared.ended.Verdict.TheVariants.{Pass, Fail, Unknown}
use Rattle.cbpf_why.specs.declared.groups.Group.{Group}
use Rattle.cbpf_why.specs.Ends.{is_verdict, verdict_of}
use Rattle.cbpf_why.specs.Groups.{AllKept, AreGroups, HasRow, KeepsAll, by_verdict, counted_of, is_in_group, group, group_kept, row, row_by, with_one}

first_of : (q : EndedBy → Type 0) (b : Bool) (x : EndedBy) (ys : List EndedBy) → q x → IfSome (slice_get ys 0) q
    → IfSome (slice_get (if b then x ∷ ys else ys) 0) q
first_of q true x ys e h = e
first_of q false x ys e h = h

-- what holds of all packets holds of the first of a group
pub first_all : (p : EndedBy → Bool) (q : EndedBy → Type 0) (xs : List EndedBy) → All q xs → IfSome (slice_get (filter p xs) 0) q
first_all p q [] h = tt
first_all p q (x ∷ xs) h = first_of q (p x) x (filter p xs) (All-head q x xs h) (first_all p q xs (All-tail q x xs h))

pub same_verdict : (v : Verdict) → is_verdict v v ≡ true
same_verdict Pass = refl
same_verdict Fail = refl
same_verdict Unknown = refl

-- a packet more, in a list that holds of it or doesn't
filter-yes : (p : EndedBy → Bool) (xs : List EndedBy) (e : EndedBy) → p e ≡ true → filter p (xs ++ e ∷ []) ≡ filter p xs ++ e ∷ []
filter-yes p xs e h = filter-append p xs (e ∷ []) ∙ ap (λ b. filter p xs ++ (if b then e ∷ [] else [])) h

filter-no : (p : EndedBy → Bool) (xs : List EndedBy) (e : EndedBy) → p e ≡ false → filter p (xs ++ e ∷ []) ≡ filter p xs
filter-no p xs e h = filter-append p xs (e ∷ []) ∙ ap (λ b. filter p xs ++ (if b then e ∷ [] else [])) h ∙ append-nil (filter p xs)

kept-more : (xs : List EndedBy) (e : EndedBy) → group_kept (xs ++ e ∷ []) ≡ with_one (group_kept xs) e
kept-more [] e = refl
kept-more (x ∷ xs) e =
    let long : length (x ∷ (xs ++ e ∷ [])) ≡ length (x ∷ xs) + 1 = omega (arith, length-append xs (e ∷ [])) in
    ap (λ n. record { count = n; first = Some x }) long

module _ (ends : List EndedBy) (e : EndedBy) (v : Verdict) (gs : List Group) (d : Group) (same : v ≡ verdict_of e.ended.reason)
    (are : AreGroups ends v gs) (within : row e < length gs) where
  more_at : (i : ℕ) (b : Bool) → (row e == i) ≡ b → i < length gs
      → slice_get (slice_set gs (row e) (with_one (get_or gs (row e) d) e)) i ≡ Some (group_kept (group (ends ++ e ∷ []) i v))
  more_at i true h inside =
      let is : i ≡ row e = grind arith in
      let holds : is_in_group i v e ≡ true = rw (h, ← same, same_verdict v) refl in
      let had : get_or gs (row e) d ≡ group_kept (group ends i v) = rw (is) (get_or_from_slice_get gs (row e) _ d (are (row e) within)) in
      slice_get-get_or _ i d (rw (length-set gs (row e) (with_one (get_or gs (row e) d) e)) inside)
      ∙ ap Some (get_or-set_at gs (row e) i _ d is within)
      ∙ ap (λ g. Some (with_one g e)) had
      ∙ ap Some (sym (kept-more (group ends i v) e))
      ∙ ap (λ l. Some (group_kept l)) (sym (filter-yes (is_in_group i v) ends e holds))
  more_at i false h inside =
      let other : i ≢ row e = λ is. absurd (grind arith) in
      let fails : is_in_group i v e ≡ false = rw h refl in
      slice_get-get_or _ i d (rw (length-set gs (row e) (with_one (get_or gs (row e) d) e)) inside)
      ∙ ap Some (get_or-set_other gs (row e) i _ d other)
      ∙ sym (slice_get-get_or gs i d inside)
      ∙ are i inside
      ∙ ap (λ l. Some (group_kept l)) (sym (filter-no (is_in_group i v) ends e fails))

  pub groups-more : AreGroups (ends ++ e ∷ []) v (slice_set gs (row e) (with_one (get_or gs (row e) d) e))
  groups-more i inside = more_at i (row e == i) refl (rw (length-set gs (row e) (with_one (get_or gs (row e) d) e)) at inside)

-- the groups of another way stay
pub groups-others : (ends : List EndedBy) (e : EndedBy) (v : Verdict) (gs : List Group) → is_verdict v (verdict_of e.ended.reason) ≡ false
    → AreGroups ends v gs → AreGroups (ends ++ e ∷ []) v gs
groups-others ends e v gs other are i inside =
    let fails : is_in_group i v e ≡ false = and_no (row e == i) other in
    are i inside ∙ ap (λ l. Some (group_kept l)) (sym (filter-no (is_in_group i v) ends e fails))
  where
    and_no : (b : Bool) {c : Bool} → c ≡ false → (b && c) ≡ false
    and_no true h = h
    and_no false h = refl

-- a group has at most as many packets as there are
pub group_count : (ends : List EndedBy) (v : Verdict) (gs : List Group) (d : Group) (i : ℕ) → AreGroups ends v gs → i < length gs
    → (get_or gs i d).count < length ends + 1
group_count ends v gs d i are inside =
    let is : get_or gs i d ≡ group_kept (group ends i v) = get_or_from_slice_get gs i _ d (are i inside) in
    rw is (omega (arith, length-filter (is_in_group i v) ends, count_by-le-length (is_in_group i v) ends))

-- ---- all groups

count-yes : (v : Verdict) (ends : List EndedBy) (e : EndedBy) → is_verdict v (verdict_of e.ended.reason) ≡ true
    → counted_of (ends ++ e ∷ []) v ≡ counted_of ends v + 1
count-yes v ends e h =
    let p = λ (x : EndedBy). is_verdict v (verdict_of x.ended.reason) in
    sym (length-filter p (ends ++ e ∷ [])) ∙ ap length (filter-yes p ends e h)
    ∙ length-append (filter p ends) (e ∷ []) ∙ ap (λ n. n + 1) (length-filter p ends)

count-no : (v : Verdict) (ends : List EndedBy) (e : EndedBy) → is_verdict v (verdict_of e.ended.reason) ≡ false
    → counted_of (ends ++ e ∷ []) v ≡ counted_of ends v
count-no v ends e h =
    let p = λ (x : EndedBy). is_verdict v (verdict_of x.ended.reason) in
    sym (length-filter p (ends ++ e ∷ [])) ∙ ap length (filter-no p ends e h) ∙ length-filter p ends

module _ (k : AllKept) (added : List Group) (n : ℕ) (ends : List EndedBy) (e : EndedBy) (keeps : KeepsAll k n ends)
    (inside : HasRow n e) where
  pub keeps_pass : verdict_of e.ended.reason ≡ Pass → AreGroups (ends ++ e ∷ []) (verdict_of e.ended.reason) added
      → length added ≡ length k.passed
      → KeepsAll (record k { passed = added; totals = record k.totals { passes = k.totals.passes + 1 } }) n (ends ++ e ∷ [])
  keeps_pass is are long = record {
    groups = λ v. elim v as (λ v. AreGroups (ends ++ e ∷ []) v (by_verdict (record k { passed = added }) v)) [
      | Pass ↦ rw is at are
      | Fail ↦ groups-others ends e Fail k.failed (rw is refl) (keeps.groups Fail)
      | Unknown ↦ groups-others ends e Unknown k.unknown (rw is refl) (keeps.groups Unknown)
    ];
    long = λ v. elim v as (λ v. length (by_verdict (record k { passed = added }) v) ≡ 2 * n) [
      | Pass ↦ long ∙ keeps.long Pass
      | Fail ↦ keeps.long Fail
      | Unknown ↦ keeps.long Unknown
    ];
    inside = All-push (HasRow n) ends e keeps.inside inside;
    totals = rw (
      keeps.totals,
      count-yes Pass ends e (rw is refl),
      count-no Fail ends e (rw is refl),
      count-no Unknown ends e (rw is refl),
    ) refl;
  }

  pub keeps_fail : verdict_of e.ended.reason ≡ Fail → AreGroups (ends ++ e ∷ []) (verdict_of e.ended.reason) added
      → length added ≡ length k.failed
      → KeepsAll (record k { failed = added; totals = record k.totals { fails = k.totals.fails + 1 } }) n (ends ++ e ∷ [])
  keeps_fail is are long = record {
    groups = λ v. elim v as (λ v. AreGroups (ends ++ e ∷ []) v (by_verdict (record k { failed = added }) v)) [
      | Pass ↦ groups-others ends e Pass k.passed (rw is refl) (keeps.groups Pass)
      | Fail ↦ rw is at are
      | Unknown ↦ groups-others ends e Unknown k.unknown (rw is refl) (keeps.groups Unknown)
    ];
    long = λ v. elim v as (λ v. length (by_verdict (record k { failed = added }) v) ≡ 2 * n) [
      | Pass ↦ keeps.long Pass
      | Fail ↦ long ∙ keeps.long Fail
      | Unknown ↦ keeps.long Unknown
    ];
    inside = All-push (HasRow n) ends e keeps.inside inside;
    totals = rw (
      keeps.totals,
      count-no Pass ends e (rw is refl),
      count-yes Fail ends e (rw is refl),
      count-no Unknown ends e (rw is refl),
    ) refl;
  }

  pub keeps_unknown : verdict_of e.ended.reason ≡ Unknown → AreGroups (ends ++ e ∷ []) (verdict_of e.ended.reason) added
      → length added ≡ length k.unknown
      → KeepsAll (record k { unknown = added; totals = record k.totals { unknown = k.totals.unknown + 1 } }) n (ends ++ e ∷ [])
  keeps_unknown is are long = record {
    groups = λ v. elim v as (λ v. AreGroups (ends ++ e ∷ []) v (by_verdict (record k { unknown = added }) v)) [
      | Pass ↦ groups-others ends e Pass k.passed (rw is refl) (keeps.groups Pass)
      | Fail ↦ groups-others ends e Fail k.failed (rw is refl) (keeps.groups Fail)
      | Unknown ↦ rw is at are
    ];
    long = λ v. elim v as (λ v. length (by_verdict (record k { unknown = added }) v) ≡ 2 * n) [
      | Pass ↦ keeps.long Pass
      | Fail ↦ keeps.long Fail
      | Unknown ↦ long ∙ keeps.long Unknown
    ];
    inside = All-push (HasRow n) ends e keeps.inside inside;
    totals = rw (
      keeps.totals,
      count-no Pass ends e (rw is refl),
      count-no Fail ends e (rw is refl),
      count-yes Unknown ends e (rw is refl),
    ) refl;
  }

-- what is kept in a row
pub group_is : (k : AllKept) (n : ℕ) (ends : List EndedBy) (v : Verdict) (i : ℕ) (g : Group) → KeepsAll k n ends → i < 2 * n
    → slice_get (by_verdict k v) i ≡ Some g → g ≡ group_kept (group ends i v)
group_is k n ends v i g keeps inside at =
    let there = keeps.groups v i (rw (keeps.long v) inside) in cc

pub group_inside : (k : AllKept) (n : ℕ) (ends : List EndedBy) (v : Verdict) (i : ℕ) (g : Group) → KeepsAll k n ends → i < 2 * n
    → slice_get (by_verdict k v) i ≡ Some g → IfSome g.first (HasRow n)
group_inside k n ends v i g keeps inside at =
    rw (group_is k n ends v i g keeps inside at) (first_all (is_in_group i v) (HasRow n) ends keeps.inside)

-- the row of a packet that ended inside a program
pub row_inside : (n : ℕ) (d : EndedBy) → HasRow n d → row d < 2 * n
row_inside n d inside = by_choice d.by inside.by
  where
    second : (b : Bool) (pc : ℕ) → pc < n → 2 * pc + (if b then 0 else 1) < 2 * n
    second true pc h = omega (arith, h)
    second false pc h = omega (arith, h)

    by_choice : (o : Option Choice) → IfSome o (λ c. c.pc < n) → row_by d.ended.pc o < 2 * n
    by_choice None h = let pc = inside.pc in omega (arith, pc)
    by_choice (Some c) h = second c.taken c.pc h
