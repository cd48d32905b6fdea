-- The records that a walk has left.
use Rattle.std.proofs.Common.{◌≡◌, ℕ, zero, suc, ◌+◌, ◌-◌, ◌<◌, ◌≤◌, ◌^◌, List, [], ◌∷◌, length, drop, take, min, arith, refl, inl, inr}
use Rattle.std.proofs.Common.{sym, ap, ◌∙◌, length-drop}
use Rattle.std.proofs.lemmas.List.{take_all}
use Rattle.std.specs.Prelude.{Option, Some, None, slice_get}
use Rattle.std.specs.Option.{unwrap_or}
use Rattle.std.proofs.lemmas.Bool.{cases_lt}
use Rattle.std.proofs.lemmas.Option.{slice_get_within}
use Rattle.pcap_classic.specs.Records.{Record, StartsAt}
use Rattle.cbpf_reply.specs.declared.reply.Place.{Place}
use Rattle.cbpf_machine.specs.Machine.{Machine}
use Rattle.cbpf_dbg.specs.declared.cursor.Cursor.{Cursor}
use Rattle.cbpf_dbg.specs.Joined.{entries_after}
use Rattle.cbpf_dbg.specs.Cursor.{AreLeft, IsEnd, Stands}
use Rattle.cbpf_dbg.proofs.JoinedLemmas.{ahead-end}
use Rattle.cbpf_dbg.proofs.RunLemmas.{end_of_run}

cut : {X : Type 0} (xs : List X) (i : ℕ) (x : X) (rest : List X) → drop i xs ≡ x ∷ rest
    → (slice_get xs i ≡ Some x) × (rest ≡ drop (suc i) xs)
cut [] zero x rest h = cc
cut [] (suc i) x rest h = cc
cut (y ∷ xs) zero x rest h = (cc, cc)
cut (y ∷ xs) (suc i) x rest h = cut xs i x rest h

-- where a record is the first of those that are left
module _ (capture : List Record) (place : Place) (left : List Record) (r : Record) (others : List Record)
    (e : left ≡ r ∷ others) (h : AreLeft capture place left) where
  -- it is that of the packet
  pub first_left : slice_get capture (place.packet - 1) ≡ Some r
  first_left = (cut capture (place.packet - 1) r others (sym h.is ∙ e)).0

  -- the others are left after it
  pub left_past : 1 ≤ place.packet → AreLeft capture (record { packet = place.packet + 1; step = 0 }) others
  left_past one =
      let on : suc (place.packet - 1) ≡ place.packet + 1 - 1 = omega (arith, one) in
      record { is = rw on at (cut capture (place.packet - 1) r others (sym h.is ∙ e)).1 }

-- at another step of the packet the same records are left
pub left_here : (capture : List Record) (old new : Place) (left : List Record) → AreLeft capture old left
    → new.packet ≡ old.packet → AreLeft capture new left
left_here capture old new left h same = record { is = rw same h.is }

pub none_of : (left : List Record) → None ≡ slice_get left 0 → left ≡ []
none_of [] e = refl
none_of (x ∷ left) e = cc

-- how many are left
pub count_left : (capture : List Record) (place : Place) (left : List Record) → AreLeft capture place left
    → length left ≡ length capture - (place.packet - 1)
count_left capture place left h = ap length h.is ∙ length-drop (place.packet - 1) capture

-- at a run's end the packet hasn't begun
pub at_end : (capture : List Record) (place : Place) (end : ℕ) → IsEnd capture place end → place.packet ≡ end
    → place ≡ record { packet = end; step = 0 }
at_end capture place end ends e = elim (cases_lt 0 place.step) [
  | inl begun ↦ (let later = ends.later begun in absurd (omega (arith, later, e)))
  | inr none ↦ (let before : place.step ≡ 0 = omega (arith, none) in rw (e, before) refl)
]

-- the capture's end is an end for each cursor
pub is_end_of_all : (machine : Machine) (capture : List Record) (w : Cursor) → Stands machine capture w
    → IsEnd capture w.place (length capture + 1)
is_end_of_all machine capture w stands =
    record {
      within = omega arith;
      most = stands.within;
      later = λ begun. let at = stands.at begun in
          omega (arith, slice_get_within capture (w.place.packet - 1) at.0 at.1);
    }

-- where none is left, nothing is ahead
pub nothing_left : (machine : Machine) (capture : List Record) (w : Cursor) (left : List Record)
    → Stands machine capture w → AreLeft capture w.place left → left ≡ []
    → (w.place.packet ≡ length capture + 1) × (entries_after machine capture w.place ≡ []) × (w.place.step ≡ 0)
nothing_left machine capture w left stands h e =
    let packet : w.place.packet ≡ length capture + 1 =
    omega (arith, count_left capture w.place left h, ap length e, stands.from_one, stands.ordered, stands.within) in
    let at = at_end capture w.place (length capture + 1) (is_end_of_all machine capture w stands) packet in (
      packet,
      rw at (ahead-end machine capture (length capture + 1) 0 (omega arith)),
      ap (λ (q : Place). q.step) at,
    )

-- all records from a place's packet on
pub all_left : (capture : List Record) (place : Place) (left : List Record)
    → left ≡ drop (place.packet - 1) (take (length capture + 1 - 1) capture) → AreLeft capture place left
all_left capture place left e =
    let all : take (length capture + 1 - 1) capture ≡ capture = take_all _ capture (omega arith) in
    record { is = e ∙ ap (drop (place.packet - 1)) all }

-- the first of the records that are left, read without passing it
pub first_of : (left : List Record) (r : Record) → Some r ≡ slice_get left 0 → left ≡ r ∷ drop 1 left
first_of [] r e = cc
first_of (x ∷ left) r e = cc

-- the packet's record starts where the first of those that are left does
pub start_first : (capture : List Record) (place : Place) (left : List Record) (here : Record)
    → AreLeft capture place left → Some here ≡ slice_get left 0 → StartsAt capture place.packet here.start
start_first capture place left here h first = λ r there.
    let same : here ≡ r = cc (first_left capture place left here _ (first_of left here first) h, there) in
    ap (λ (k : Record). k.start) same

-- the packet before which a run ends that comes to no hit
pub end_reckoned : (limit : Option ℕ) (first : ℕ) {count total most sum end : ℕ} → total ≡ count → count < 2 ^ 60
    → most ≡ unwrap_or limit (2 ^ 64 - 1) → sum ≡ min (first + most) (2 ^ 64 - 1) → end ≡ min sum (total + 1)
    → end ≡ end_of_run limit first count
end_reckoned None first all few most sum end = omega (arith, all, few, most, sum, end)
end_reckoned (Some n) first all few most sum end = omega (arith, all, few, most, sum, end)

-- where a run ends is not before its place
pub is_end : (capture : List Record) (place : Place) (limit : Option ℕ) (end : ℕ)
    → end ≡ end_of_run limit place.packet (length capture) → (limit ≡ Some 0 → ⊥)
    → IsEnd capture place (length capture + 1) → IsEnd capture place end
is_end capture place None end is some all = rw is all
is_end capture place (Some zero) end is some all = absurd (some refl)
is_end capture place (Some (suc n)) end is some all = rw is (record {
  within = omega arith;
  most = omega (arith, all.most);
  later = λ b. omega (arith, all.later b);
})
