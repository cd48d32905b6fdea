-- One call that reads: what it adds to the records that were read, and to what was taken of them.
use Rattle.std.proofs.Common.{◌≡◌, ℕ, zero, suc, ◌+◌, List, [], ◌∷◌, ◌++◌, length, arith, refl, sym, ap, ◌∙◌, length-append, append_assoc, append-nil, ◌<◌, ◌≤◌}
use Rattle.std.specs.Prelude.{true, false, Option, Some, None, Ok, Err, filter, nat_le, slice_get, IfSome, if◌then◌else◌}
use Rattle.std.proofs.lemmas.Bool.Decides.{nat_tests}
use Rattle.std.proofs.lemmas.List.Elements.{filter-append}
use Rattle.pcap_classic.specs.Savefile.{Savefile}
use Rattle.cbpf_why.specs.declared.gathered.Gathered.{Gathered}
use Rattle.cbpf_why.specs.declared.question.Question.{Question}
use Rattle.pcap_classic.specs.Records.{Record}
use Rattle.cbpf_why.specs.Taking.{HasCause, HasGathered, TookFrom, Stepped, StepFault, LeavesKnown, from_first}
use Rattle.cbpf_why.specs.Question.{machine_in}
use Rattle.cbpf_why.specs.Reports.{packet_text}
use Rattle.cbpf_why.specs.declared.reporting.WhyFault.TheVariants.{Write}
use Rattle.cbpf_why.specs.declared.reporting.WhyFault.TheVariants as why
use Rattle.pcap_classic.specs.declared.reading.ReadFault.TheVariants.{Read, Memory}
use Rattle.std.specs.declared.io.Error.{Error}
use Rattle.cbpf_code.specs.Writing.{Appended, AppendedPart}
use Rattle.pcap_classic.specs.Lent.{record_of}
use Rattle.pcap_classic.specs.Reading.{Reading, Gives, Proceeds}
use Rattle.pcap_classic.specs.declared.captured.Captured.{Captured}

abbrev with_records : Savefile → List Record → Savefile
with_records s l = record s { records = l }

-- one more record was read, of which it is known what was left
pub reads-more : (first : ℕ) (s rest next : Savefile) (before after : ℕ) (more : List Record) (r : Record)
    → TookFrom first s rest before after more → rest ≡ record next { records = r ∷ next.records } → r.number ≡ after + 1
    → TookFrom first s next before (after + 1) (more ++ filter (λ x. nat_le first x.number) (r ∷ []))
reads-more first s rest next before after more r read left number = record {
  front = read.front ++ r ∷ [];
  split = read.split
      ∙ ap (λ (x : Savefile). with_records x (read.front ++ x.records)) left
      ∙ ap (with_records next) (sym (append_assoc read.front (r ∷ []) next.records));
  counted = omega (arith, read.counted, length-append read.front (r ∷ []));
  numbered = λ i x at. numbered_more read.front before r read.numbered (rw read.counted at number) i x at;
  taken = ap (λ l. l ++ filter (λ x. nat_le first x.number) (r ∷ [])) read.taken
      ∙ sym (filter-append (λ x. nat_le first x.number) read.front (r ∷ []));
}
  where
    numbered_more : (xs : List Record) (b : ℕ) (r : Record)
        → ((i : ℕ) (x : Record) → slice_get xs i ≡ Some x → x.number ≡ b + i + 1) → r.number ≡ b + length xs + 1
        → (i : ℕ) (x : Record) → slice_get (xs ++ r ∷ []) i ≡ Some x → x.number ≡ b + i + 1
    numbered_more [] b r h e zero x at = let same : r ≡ x = cc in rw (← same) e
    numbered_more [] b r h e (suc i) x at = absurd cc
    numbered_more (y ∷ ys) b r h e zero x at = h zero x at
    numbered_more (y ∷ ys) b r h e (suc i) x at =
        let is = numbered_more ys (b + 1) r (λ j z m. let n = h (suc j) z m in omega (arith, n)) (omega (arith, e)) i x at in
        omega (arith, is)

-- ---- one call that reads

from_yes : (first : ℕ) (r : Record) → first ≤ r.number → from_first first (r ∷ []) ≡ r ∷ []
from_yes first r h =
    let e : nat_le first r.number ≡ true = grind (arith, nat_tests) in
    ap (λ b. if b then r ∷ [] else []) e

from_no : (first : ℕ) (r : Record) → r.number < first → from_first first (r ∷ []) ≡ []
from_no first r h =
    let e : nat_le first r.number ≡ false = grind (arith, nat_tests) in
    ap (λ b. if b then r ∷ [] else []) e

leaves_some : (before : ℕ) (o : Option Savefile) (new : Reading) (item : Captured) → item.number ≡ before + 1
    → IfSome o (λ s. Gives s (Ok (Some item)) new) → LeavesKnown before o new.left (record_of item ∷ [])
leaves_some before None new item e h = tt
leaves_some before (Some s) new item e h =
    (h.0, h.1, h.2, λ r at. let same : record_of item ≡ r = cc in rw (← same) e)

leaves_none : (before : ℕ) (o : Option Savefile) (new : Reading) → IfSome o (λ s. new.left ≡ Some s)
    → LeavesKnown before o new.left []
leaves_none before None new h = tt
leaves_none before (Some s) new h = (s, h, refl, λ r at. absurd cc)

module _ {A P : Type 0} (q : Question P) (first : ℕ) (records : List Record) (old new : Reading) (c : Gathered A)
    (u v : Option (List ℕ)) (item : Captured) (goes : Proceeds old.count (Ok (Some item)) new)
    (gives : IfSome old.left (λ s. Gives s (Ok (Some item)) new)) where
  pub stepped_over : item.number < first → HasGathered q c records → Appended u v [] → Stepped q first records old new c u v true
  stepped_over below took wrote =
      let none = from_no first (record_of item) below in
      record {
        one = record_of item ∷ [];
        is_one = refl;
        took = rw (none, append-nil records) took;
        count = goes.1;
        few = λ h. goes.2;
        leaves = leaves_some old.count old.left new item goes.0 gives;
        ends = λ e. absurd cc;
        wrote = rw none wrote;
      }

  pub stepped_on : first ≤ item.number → HasGathered q c (records ++ record_of item ∷ [])
      → Appended u v (packet_text q.report (machine_in q) (record_of item)) → Stepped q first records old new c u v true
  stepped_on above took wrote =
      let some = from_yes first (record_of item) above in
      record {
        one = record_of item ∷ [];
        is_one = refl;
        took = rw some took;
        count = goes.1;
        few = λ h. goes.2;
        leaves = leaves_some old.count old.left new item goes.0 gives;
        ends = λ e. absurd cc;
        wrote = rw (some, append-nil (packet_text q.report (machine_in q) (record_of item))) wrote;
      }

  pub stepped_failed : first ≤ item.number
      → AppendedPart u v (packet_text q.report (machine_in q) (record_of item)) → StepFault q first old new u v Write
  stepped_failed above part =
      let some = from_yes first (record_of item) above in
      record {
        one = record_of item ∷ [];
        is_few = omega arith;
        count = goes.1;
        leaves = leaves_some old.count old.left new item goes.0 gives;
        cause = tt;
        stopped = rw (some, append-nil (packet_text q.report (machine_in q) (record_of item))) part;
      }

at_end : (o : Option Savefile) (new : Reading) → IfSome o (λ s. Gives s (Ok None) new)
    → IfSome o (λ s. (s.records ≡ []) × (new.ended ≡ Some s.ending))
at_end None new h = tt
at_end (Some s) new h = (h.0, h.1)

kept_none : (o : Option Savefile) (new : Reading) → IfSome o (λ s. Gives s (Ok None) new) → IfSome o (λ s. new.left ≡ Some s)
kept_none None new h = tt
kept_none (Some s) new h = h.2

kept_read : (o : Option Savefile) (new : Reading) (e : Error) → IfSome o (λ s. Gives s (Err (Read e)) new)
    → IfSome o (λ s. new.left ≡ Some s)
kept_read None new e h = tt
kept_read (Some s) new e h = h

kept_memory : (o : Option Savefile) (new : Reading) → IfSome o (λ s. Gives s (Err Memory) new)
    → IfSome o (λ s. new.left ≡ Some s)
kept_memory None new h = tt
kept_memory (Some s) new h = h.0

needs_room : (o : Option Savefile) (new : Reading) → IfSome o (λ s. Gives s (Err Memory) new)
    → HasCause why.Memory o new
needs_room None new h = tt
needs_room (Some s) new h = rw h.0 h.1

module _ {A P : Type 0} (q : Question P) (first : ℕ) (old new : Reading) (u v : Option (List ℕ)) (nothing : Appended u v []) where
  -- there was no record
  pub stepped_end : (records : List Record) (c : Gathered A) → Proceeds old.count (Ok None) new
      → IfSome old.left (λ s. Gives s (Ok None) new) → HasGathered q c records → Stepped q first records old new c u v false
  stepped_end records c goes gives took = record {
    one = [];
    is_one = refl;
    took = rw (append-nil records) took;
    count = omega (arith, goes.0);
    few = λ h. omega (arith, h, goes.0);
    leaves = leaves_none old.count old.left new (kept_none old.left new gives);
    ends = λ e. at_end old.left new gives;
    wrote = nothing;
  }

-- a read failed, or there was no memory for a record
module _ {P : Type 0} (q : Question P) (first : ℕ) (old new : Reading) (u v : Option (List ℕ)) (nothing : Appended u v []) where
  pub stepped_unread : (e : Error) → Proceeds old.count (Err (Read e)) new
      → IfSome old.left (λ s. Gives s (Err (Read e)) new) → StepFault q first old new u v why.Read
  stepped_unread e goes gives = record {
    one = [];
    is_few = omega arith;
    count = omega (arith, goes.0);
    leaves = leaves_none old.count old.left new (kept_read old.left new e gives);
    cause = tt;
    stopped = nothing;
  }

  pub stepped_unheld : Proceeds old.count (Err Memory) new → IfSome old.left (λ s. Gives s (Err Memory) new)
      → StepFault q first old new u v why.Memory
  stepped_unheld goes gives = record {
    one = [];
    is_few = omega arith;
    count = omega (arith, goes.0);
    leaves = leaves_none old.count old.left new (kept_memory old.left new gives);
    cause = needs_room old.left new gives;
    stopped = nothing;
  }

stays : (o : Option Savefile) → IfSome o (λ s. o ≡ Some s)
stays None = tt
stays (Some s) = refl

-- a flush failed
pub stepped_unflushed : {P : Type 0} (q : Question P) (first : ℕ) (old : Reading) (u v : Option (List ℕ))
    → AppendedPart u v [] → StepFault q first old old u v Write
stepped_unflushed q first old u v part = record {
  one = [];
  is_few = omega arith;
  count = omega arith;
  leaves = leaves_none old.count old.left old (stays old.left);
  cause = tt;
  stopped = part;
}
