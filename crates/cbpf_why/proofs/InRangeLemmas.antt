-- Calls that read one after another, to the end of a range or of the capture.
use Rattle.std.proofs.Common.{◌≡◌, ℕ, ◌+◌, List, [], ◌∷◌, ◌++◌, length, arith, refl, sym, ap, ◌∙◌, length-append, append_assoc, append-nil, ◌<◌, ◌≤◌, ◌^◌}
use Rattle.std.specs.Prelude.{true, Option, Some, None, Result, Ok, Err, MatchResult, nat_le, IfSome}
use Rattle.pcap_classic.specs.Savefile.{Savefile}
use Rattle.cbpf_why.specs.declared.gathered.Gathered.{Gathered}
use Rattle.cbpf_why.specs.declared.question.Question.{Question}
use Rattle.std.proofs.lemmas.List.Sums.{length-filter, count_by-le-length}
use Rattle.std.proofs.lemmas.Grind.{flat_map-append}
use Rattle.cbpf_code.proofs.WrittenLemmas.{appended-then, part-then}
use Rattle.pcap_classic.specs.Records.{Record}
use Rattle.cbpf_why.specs.Taking.{HasCause, HasGathered, TookFromKnown, Going, RangeFault, Ranged, Closed, LeftAfter, Stepped, StepFault, LeavesKnown, from_first}
use Rattle.cbpf_why.specs.Question.{machine_in}
use Rattle.cbpf_why.specs.Reports.{packet_text, packets_text}
use Rattle.cbpf_why.specs.declared.chosen.PacketRange.{PacketRange}
use Rattle.cbpf_why.specs.declared.reporting.WhyFault.{WhyFault}
use Rattle.cbpf_why.specs.declared.reporting.WhyFault.TheVariants.{Write}
use Rattle.cbpf_why.specs.declared.reporting.WhyFault.TheVariants as why
use Rattle.cbpf_code.specs.Writing.{Appended, Wrote}
use Rattle.cbpf_code.specs.declared.writing.WriteFault.{WriteFault}
use Rattle.pcap_classic.specs.Reading.{Reading}
use Rattle.cbpf_why.proofs.ReadLemmas.{reads-more}

known_more : (first : ℕ) (old : Option Savefile) (mid new : Option Savefile) (before after : ℕ) (more one : List Record)
    → TookFromKnown first old mid before after more → LeavesKnown after mid new one → length one ≡ 1
    → TookFromKnown first old new before (after + 1) (more ++ from_first first one)
known_more first None mid new before after more one reads leaves e = tt
known_more first (Some s) mid new before after more [] reads leaves e = absurd (omega (arith, e))
known_more first (Some s) mid new before after more (r ∷ x ∷ xs) reads leaves e = absurd (omega (arith, e))
known_more first (Some s) mid new before after more (r ∷ []) reads leaves e =
    let left = rw reads.1 at leaves in
    (left.0, left.1, reads-more first s reads.0 left.0 before after more r reads.2 left.2 (left.3 r refl))

-- the same of no record or one
known_any : (first : ℕ) (old : Option Savefile) (mid new : Option Savefile) (before after : ℕ) (more one : List Record)
    → TookFromKnown first old mid before after more → LeavesKnown after mid new one → length one ≤ 1
    → TookFromKnown first old new before (after + length one) (more ++ from_first first one)
known_any first None mid new before after more one reads leaves e = tt
known_any first (Some s) mid new before after more [] reads leaves e =
    let left = rw reads.1 at leaves in
    let stays : after + 0 ≡ after = omega arith in
    let same : left.0 ≡ reads.0 = sym left.2 in
    (reads.0, left.1 ∙ ap Some same, rw (stays, append-nil more) reads.2)
known_any first (Some s) mid new before after more (r ∷ x ∷ xs) reads leaves e = absurd (omega (arith, e))
known_any first (Some s) mid new before after more (r ∷ []) reads leaves e =
    known_more first (Some s) mid new before after more (r ∷ []) reads leaves refl

pub range-starts : {A P : Type 0} (q : Question P) (first : ℕ) (records : List Record) (old : Reading) (c : Gathered A)
    (w : Option (List ℕ)) → HasGathered q c records → length records ≤ old.count → Appended w w []
    → Going q first records old old c w w
range-starts q first records old c w took few nothing = record {
  more = [];
  took = rw (append-nil records) took;
  few = rw (append-nil records) few;
  reads = starts old.left;
  wrote = nothing;
}
  where
    starts : (o : Option Savefile) → TookFromKnown first o o old.count old.count []
    starts None = tt
    starts (Some s) = (
      s,
      refl,
      record {
        front = [];
        split = refl;
        counted = omega arith;
        numbered = λ i r at. absurd cc;
        taken = refl;
      },
    )

pub range-goes : {A P : Type 0} (q : Question P) (first : ℕ) (records : List Record) (old mid new : Reading)
    (c d : Gathered A) (u v w : Option (List ℕ)) (going : Going q first records old mid c u v)
    → Stepped q first (records ++ going.more) mid new d v w true → Going q first records old new d u w
range-goes q first records old mid new c d u v w going step = record {
  more = going.more ++ from_first first step.one;
  took = rw (sym (append_assoc records going.more (from_first first step.one))) step.took;
  few =
      let long = length-append (records ++ going.more) (from_first first step.one) in
      let at_most = length-filter (λ r. nat_le first r.number) step.one in
      let most = count_by-le-length (λ r. nat_le first r.number) step.one in
      let same = ap length (append_assoc records going.more (from_first first step.one)) in
      omega (arith, long, at_most, most, step.is_one, step.count, going.few, same);
  reads =
      let count : new.count ≡ mid.count + 1 = omega (arith, step.is_one, step.count) in
      rw count (known_more first old.left mid.left new.left old.count mid.count going.more step.one going.reads
      step.leaves step.is_one);
  wrote = rw (flat_map-append (packet_text q.report (machine_in q)) going.more (from_first first step.one))
      (appended-then _ _ _ _ _ going.wrote step.wrote);
}

cause_known : (fault : WhyFault) (first : ℕ) (old mid : Option Savefile) (new : Reading) (before after : ℕ)
    (more : List Record) → TookFromKnown first old mid before after more → HasCause fault mid new → HasCause fault old new
cause_known Write first old mid new before after more reads h = tt
cause_known why.Read first old mid new before after more reads h = tt
cause_known why.Memory first None mid new before after more reads h = tt
cause_known why.Memory first (Some s) mid new before after more reads h = rw reads.1 at h

pub range-fails : {A P : Type 0} (q : Question P) (range : PacketRange) (records : List Record) (old mid new : Reading)
    (c : Gathered A) (u v w : Option (List ℕ)) (fault : WhyFault) → Going q range.first records old mid c u v
    → mid.count < range.last → StepFault q range.first mid new v w fault → RangeFault q range old new u w fault
range-fails q range records old mid new c u v w fault going below step = record {
  more = going.more ++ from_first range.first step.one;
  up_to = λ h. omega (arith, below, step.is_few, step.count);
  reads = rw step.count (known_any range.first old.left mid.left new.left old.count mid.count going.more step.one
      going.reads step.leaves step.is_few);
  cause = cause_known fault range.first old.left mid.left new old.count mid.count going.more going.reads step.cause;
  stopped = rw (flat_map-append (packet_text q.report (machine_in q)) going.more (from_first range.first step.one))
      (stopped_more fault u v w (packets_text q.report (machine_in q) going.more) _ going.wrote step.stopped);
}
  where
    stopped_more : (e : WhyFault) (u v w : Option (List ℕ)) (a b : List ℕ) → Appended u v a → LeftAfter e v w b
        → LeftAfter e u w (a ++ b)
    stopped_more Write u v w a b x y = part-then u v w a b x y
    stopped_more why.Read u v w a b x y = appended-then u v w a b x y
    stopped_more why.Memory u v w a b x y = appended-then u v w a b x y

ends_known : (first : ℕ) (old mid : Option Savefile) (new : Reading) (before after : ℕ) (more : List Record)
    → TookFromKnown first old mid before after more → LeavesKnown after mid new.left []
    → IfSome mid (λ s. (s.records ≡ []) × (new.ended ≡ Some s.ending))
    → IfSome old (λ _. IfSome new.left (λ s. (s.records ≡ []) × (new.ended ≡ Some s.ending)))
ends_known first None mid new before after more reads leaves ends = tt
ends_known first (Some s) mid new before after more reads leaves ends =
    let left = rw reads.1 at leaves in
    let there = rw reads.1 at ends in
    rw left.1 (rw left.2 at there)

-- the capture's end in a range
pub range-ends : {A P : Type 0} (q : Question P) (range : PacketRange) (records : List Record) (old mid new : Reading)
    (c d : Gathered A) (u v w : Option (List ℕ)) (one : List Record)
    (going : Going q range.first records old mid c u v) → old.count ≤ mid.count → mid.count ≤ range.last
    → mid.count < 2 ^ 60 → length one ≡ 0 → HasGathered q d ((records ++ going.more) ++ from_first range.first one) → new.count ≡ mid.count + length one
    → LeavesKnown mid.count mid.left new.left one → IfSome mid.left (λ s. (s.records ≡ []) × (new.ended ≡ Some s.ending))
    → Appended v w (packets_text q.report (machine_in q) (from_first range.first one))
    → Ranged q range records old new d u w
range-ends q range records old mid new c d u v w (r ∷ rs) going since up_to most none took counted leaves ends wrote =
    absurd (omega (arith, none))
range-ends q range records old mid new c d u v w [] going since up_to most none took counted leaves ends wrote =
    let same : new.count ≡ mid.count = omega (arith, counted) in
    let stays : mid.count + 0 ≡ mid.count = omega arith in
    record {
      going = record {
        more = going.more;
        took = rw (append-nil (records ++ going.more)) at took;
        few = rw same going.few;
        reads = rw same (rw (stays, append-nil going.more) at
            (known_any range.first old.left mid.left new.left old.count mid.count going.more [] going.reads leaves (omega arith)));
        wrote = rw (append-nil (packets_text q.report (machine_in q) going.more)) at (appended-then _ _ _ _ _ going.wrote wrote);
      };
      since = omega (arith, since, same);
      up_to = λ h. omega (arith, up_to, same);
      most = omega (arith, most, same);
      ends = λ below. ends_known range.first old.left mid.left new old.count mid.count going.more going.reads leaves ends;
    }

-- what was written, by the fault of the report
pub closed_by : (done : Result (Unit {0}) WriteFault) (r : Result (Unit {0}) WhyFault) (u w : Option (List ℕ)) (text : List ℕ)
    → MatchResult done (λ x. r ≡ Ok x) (λ e. r ≡ Err Write) → Wrote u w done text → Closed u w r text
closed_by (Ok x) r u w text h y = rw h y
closed_by (Err e) r u w text h y = rw h y
