-- What a report has written at its end, or where a fault came.
use Rattle.std.proofs.Common.{◌≡◌, ℕ, suc, subst, ◌≤◌, List, [], ◌∷◌, ◌++◌, length, arith, refl, sym, ap, ◌∙◌}
use Rattle.std.proofs.Common.{inl, inr, length-append, append-nil}
use Rattle.std.specs.Prelude.{Bool, true, false, Option, Some, None, Result, Ok, Err, MatchResult, filter, slice_get, drop, take, IfSome, if◌then◌else◌}
use Rattle.std.specs.Option.{option_map}
use Rattle.std.specs.List.{All}
use Rattle.std.specs.Io.KnownBytes.{Keeps as KeepsBytes}
use Rattle.std.proofs.lemmas.Grind.{flat_map-append}
use Rattle.std.proofs.lemmas.List.Elements.{filter-append}
use Rattle.cbpf_code.proofs.WrittenLemmas.{appended-kept, appended-nil, appended-then, part-more, part-take, part-then}
use Rattle.cbpf_code.specs.Writing.{Appended, AppendedPart}
use Rattle.cbpf_machine.specs.Machine.{Machine}
use Rattle.pcap_classic.specs.Reading.{Reading}
use Rattle.pcap_classic.specs.Records.{AreNumbered, Record}
use Rattle.pcap_classic.specs.Savefile.{Savefile}
use Rattle.cbpf_why.specs.Chosen.{chosen, is_chosen}
use Rattle.cbpf_why.specs.Taking.{Broke, Closed, HasCause, Ends, Looked, LookedKnown, LeftAfter, Went}
use Rattle.cbpf_why.specs.Question.{machine_in}
use Rattle.cbpf_why.specs.Reports.{IsLeft, ReadsWithin, Reported, WroteFront, capture_end, closing_text, end_after, end_read, goes_to_end, packet_text, packets_text, report_text}
use Rattle.cbpf_why.specs.declared.chosen.PacketRange.{PacketRange}
use Rattle.cbpf_why.specs.declared.gathered.Gathered.{Gathered}
use Rattle.cbpf_why.specs.declared.question.Question.{Question}
use Rattle.cbpf_why.specs.declared.reporting.CaptureEnd.{CaptureEnd}
use Rattle.cbpf_why.specs.declared.reporting.WhyFault.{WhyFault}
use Rattle.cbpf_why.specs.declared.reporting.WhyFault.TheVariants as why
use Rattle.cbpf_why.specs.declared.report.Report.{Report, TheVariants.Graph}
use Rattle.cbpf_why.proofs.RangeLemmas.{EndsBy, all-end, asks-no-end, ends-later, none_above}

-- ---- the records that were not read

filter_none : (p : Record → Bool) (xs : List Record) → ((i : ℕ) (r : Record) → slice_get xs i ≡ Some r → p r ≡ false)
    → filter p xs ≡ []
filter_none p [] h = refl
filter_none p (x ∷ xs) h =
    ap (λ b. if b then x ∷ filter p xs else filter p xs) (h 0 x refl) ∙ filter_none p xs (λ i r at. h (suc i) r at)

none_left : (ranges : List PacketRange) (count : ℕ) (records : List Record) → AreNumbered count records
    → All (EndsBy count) ranges → chosen ranges records ≡ []
none_left ranges count records numbered ended = filter_none (λ r. is_chosen ranges r.number) records (λ i r at.
    let number = numbered i r at in none_above count r.number ranges ended (omega (arith, number)))

take_front : (xs ys : List Record) → take (length xs) (xs ++ ys) ≡ xs
take_front [] [] = refl
take_front [] (y ∷ ys) = refl
take_front (x ∷ xs) ys = ap (λ l. x ∷ l) (take_front xs ys)

drop_front : (xs ys : List Record) → drop (length xs) (xs ++ ys) ≡ ys
drop_front [] ys = refl
drop_front (x ∷ xs) ys = drop_front xs ys

module _ (ranges : List PacketRange) (c rest : Savefile) (count : ℕ) (records : List Record)
    (looked : Looked ranges c rest count records) where
  records_are : c.records ≡ looked.front ++ rest.records
  records_are = ap (λ (s : Savefile). s.records) looked.split

  all_chosen : chosen ranges c.records ≡ records ++ chosen ranges rest.records
  all_chosen = ap (chosen ranges) records_are
      ∙ filter-append (λ r. is_chosen ranges r.number) looked.front rest.records
      ∙ ap (λ l. l ++ chosen ranges rest.records) (sym looked.among)

  all_are : chosen ranges rest.records ≡ [] → records ≡ chosen ranges c.records
  all_are none = sym (all_chosen ∙ ap (λ l. records ++ l) none ∙ append-nil records)

  as_many : rest.records ≡ [] → length c.records ≡ count
  as_many none =
      let long = ap length records_are in
      let joined = length-append looked.front rest.records in
      let no = ap length none in
      omega (arith, long, joined, no, looked.counted)

  at_most : count ≤ length c.records
  at_most =
      let long = ap length records_are in
      let joined = length-append looked.front rest.records in
      omega (arith, long, joined, looked.counted)

  same_ending : c.ending ≡ rest.ending
  same_ending = ap (λ (s : Savefile). s.ending) looked.split

  rests : drop count c.records ≡ rest.records
  rests = ap (drop count) records_are ∙ rw looked.counted (drop_front looked.front rest.records)

  fronts : take count c.records ≡ looked.front
  fronts = ap (take count) records_are ∙ rw looked.counted (take_front looked.front rest.records)

-- ---- the whole text

whole_text : (report : Report) (ranges : List PacketRange) (m : Machine) (c : Savefile) (records : List Record)
    (text : List ℕ) → records ≡ chosen ranges c.records
    → text ≡ closing_text report m records (end_read ranges c)
    → packets_text report m records ++ text ≡ report_text report ranges m c
unfolding report_text
whole_text report ranges m c records text are is =
    ap (λ l. packets_text report m records ++ l) is
    ∙ ap (λ l. packets_text report m l ++ closing_text report m l (end_read ranges c)) are

-- what is known of the capture's end
abbrev end_at : Reading → Bool → Option CaptureEnd
end_at new is_over =
    if is_over then option_map (end_after new.count) new.ended else None

-- all that is looked at was read: the text that belongs to it, and the end
pub record Finished (report : Report) (ranges : List PacketRange) (m : Machine) (c : Savefile) (records : List Record)
    (end : Option CaptureEnd) : Type 0 where
  pub text : packets_text report m records ++ closing_text report m records end ≡ report_text report ranges m c
  pub is_end : end ≡ end_read ranges c

finished_over : (report : Report) (m : Machine) (ranges : List PacketRange) (c rest : Savefile) (new : Reading)
    (records : List Record) → Looked ranges c rest new.count records → rest.records ≡ []
    → new.ended ≡ Some rest.ending → true ≡ goes_to_end ranges new.count
    → Finished report ranges m c records (end_at new true)
finished_over report m ranges c rest new records looked none ended goes =
    let many = as_many ranges c rest new.count records looked none in
    let nothing : chosen ranges rest.records ≡ [] = ap (chosen ranges) none in
    let whole : end_at new true ≡ Some (capture_end c) =
    ap (option_map (end_after new.count)) (ended ∙ ap Some (sym (same_ending ranges c rest new.count records looked)))
    ∙ ap (λ (n : ℕ). Some (end_after n c.ending)) (sym many) in
    let is : end_at new true ≡ end_read ranges c =
    whole ∙ ap (λ b. if b then Some (capture_end c) else None) (goes ∙ ap (goes_to_end ranges) (sym many)) in
    record {
      text = whole_text report ranges m c records (closing_text report m records (end_at new true))
          (all_are ranges c rest new.count records looked nothing) (ap (closing_text report m records) is);
      is_end = is;
    }

finished_before : (report : Report) (m : Machine) (ranges : List PacketRange) (c rest : Savefile) (new : Reading)
    (records : List Record) → Looked ranges c rest new.count records → AreNumbered new.count rest.records
    → false ≡ goes_to_end ranges new.count → Finished report ranges m c records (end_at new false)
finished_before report m ranges c rest new records looked numbered goes =
    let ended = all-end ranges new.count goes in
    let nothing = none_left ranges new.count rest.records numbered ended in
    let later = ends-later new.count (length c.records) ranges ended (at_most ranges c rest new.count records looked) in
    let is : None ≡ end_read ranges c =
    ap (λ b. if b then Some (capture_end c) else None) (asks-no-end ranges (length c.records) later) in
    record {
      text = whole_text report ranges m c records (closing_text report m records None)
          (all_are ranges c rest new.count records looked nothing) (ap (closing_text report m records) is);
      is_end = is;
    }

finished_by : (report : Report) (m : Machine) (ranges : List PacketRange) (o : Option Savefile) (new : Reading)
    (records : List Record) (is_over : Bool) → LookedKnown ranges o new.left new.count records
    → Ends ranges o new is_over → IfSome new.left (λ s. AreNumbered new.count s.records)
    → IfSome o (λ c. Finished report ranges m c records (end_at new is_over))
finished_by report m ranges None new records is_over known ends numbered = tt
finished_by report m ranges (Some c) new records true known ends numbered =
    let over = rw known.1 at (ends.over refl) in
    finished_over report m ranges c known.0 new records known.2 over.0 over.1 ends.asked
finished_by report m ranges (Some c) new records false known ends numbered =
    let follows = rw known.1 at numbered in
    finished_before report m ranges c known.0 new records known.2 follows ends.asked

-- what is left of the capture, and how many of its packets were read at most
left_by : (ranges : List PacketRange) (o : Option Savefile) (new : Reading) (records : List Record)
    → LookedKnown ranges o new.left new.count records → IfSome o (λ c. IsLeft c new)
left_by ranges None new records known = tt
left_by ranges (Some c) new records known =
    let rest = known.0 in
    let same : record c { records = drop new.count c.records } ≡ rest =
    ap (λ (l : List Record). record c { records = l }) (rests ranges c rest new.count records known.2)
    ∙ ap (λ (s : Savefile). record s { records = rest.records }) known.2.split in
    known.1 ∙ ap Some (sym same)

module _ {A P : Type 0} (q : Question P) (old new : Reading) (c : Gathered A) (w v : Option (List ℕ)) where
  pub left_after : (r : Result Bool WhyFault)
      → MatchResult r (λ is_over. Went q old new c w v × Ends q.packets.now old.left new is_over)
      (λ fault. Broke q old.left new w v fault) → IfSome old.left (λ s. IsLeft s new)
  left_after (Ok is_over) h = left_by q.packets.now old.left new h.0.records h.0.known
  left_after (Err fault) h = left_by q.packets.now old.left new h.records h.known

  pub within_after : (r : Result Bool WhyFault)
      → MatchResult r (λ is_over. Went q old new c w v × Ends q.packets.now old.left new is_over)
      (λ fault. Broke q old.left new w v fault) → ReadsWithin q.packets.now new.count
  within_after (Ok is_over) h = h.0.within
  within_after (Err fault) h = h.within

-- ---- what a report leaves

front_part : (report : Report) (ranges : List PacketRange) (m : Machine) (c rest : Savefile) (count : ℕ)
    (records : List Record) (u w : Option (List ℕ)) → Looked ranges c rest count records
    → AppendedPart u w (packets_text report m records) → AppendedPart u w (report_text report ranges m c)
front_part report ranges m c rest count records u w looked part =
    let closing = closing_text report m (chosen ranges c.records) (end_read ranges c) in
    let all : packets_text report m (chosen ranges c.records)
    ≡ packets_text report m records ++ packets_text report m (chosen ranges rest.records) =
    ap (packets_text report m) (all_chosen ranges c rest count records looked)
    ∙ flat_map-append (packet_text report m) records (chosen ranges rest.records) in
    rw (← whole_text report ranges m c (chosen ranges c.records) closing refl refl, all)
    (part-more u w _ closing (part-more u w _ (packets_text report m (chosen ranges rest.records)) part))

wrote_front : (report : Report) (ranges : List PacketRange) (m : Machine) (c rest : Savefile) (count : ℕ)
    (records : List Record) (u w : Option (List ℕ)) → Looked ranges c rest count records
    → Appended u w (packets_text report m records) → WroteFront report ranges m c count u w
wrote_front report ranges m c rest count records u w looked wrote = record {
  few = at_most ranges c rest count records looked;
  wrote =
      let are = looked.among ∙ ap (chosen ranges) (sym (fronts ranges c rest count records looked)) in
      rw are at wrote;
}

broke_by : (report : Report) (ranges : List PacketRange) (m : Machine) (o : Option Savefile) (new : Reading)
    (records : List Record) (u w : Option (List ℕ)) (fault : WhyFault) → LookedKnown ranges o new.left new.count records
    → HasCause fault o new → LeftAfter fault u w (packets_text report m records)
    → IfSome o (λ c. Reported report ranges m c new.count u w (Err fault))
broke_by report ranges m None new records u w fault known cause stopped = tt
broke_by report ranges m (Some c) new records u w why.Write known cause stopped =
    front_part report ranges m c known.0 new.count records u w known.2 stopped
broke_by report ranges m (Some c) new records u w why.Read known cause stopped =
    wrote_front report ranges m c known.0 new.count records u w known.2 stopped
broke_by report ranges m (Some c) new records u w why.Memory known cause stopped =
    let looked = known.2 in
    let needs = rw known.1 at cause in (
      wrote_front report ranges m c known.0 new.count records u w looked stopped,
      inl (inr (rw (rests ranges c known.0 new.count records looked, same_ending ranges c known.0 new.count records looked)
          needs)),
    )

pub broke : {P : Type 0} (q : Question P) (old : Option Savefile) (new : Reading) (u w : Option (List ℕ)) (fault : WhyFault)
    → Broke q old new u w fault
    → IfSome old (λ c. Reported q.report q.packets.now (machine_in q) c new.count u w (Err fault))
broke q old new u w fault h =
    broke_by q.report q.packets.now (machine_in q) old new h.records u w fault h.known h.cause h.stopped

take_none : (xs : List Record) → take 0 xs ≡ []
take_none [] = refl
take_none (x ∷ xs) = refl

-- there was no room for the counts
pub unstarted : (report : Report) (ranges : List PacketRange) (m : Machine) (o : Option Savefile) (w : Option (List ℕ))
    (count : ℕ) → count ≡ 0 → IfSome o (λ c. Reported report ranges m c count w w (Err why.Memory))
unstarted report ranges m None w count is = tt
unstarted report ranges m (Some c) w count is = (
  record {
    few = omega (arith, is);
    wrote =
        let none : take count c.records ≡ [] = ap (λ (n : ℕ). take n c.records) is ∙ take_none c.records in
        subst (λ (l : List Record). Appended w w (packets_text report m (chosen ranges l))) (sym none) (appended-nil w);
  },
  inl (inl is),
)

-- the end of a report fails
closed_by : (report : Report) (ranges : List PacketRange) (m : Machine) (o new : Option Savefile) (count : ℕ)
    (records : List Record) (end : Option CaptureEnd) (u v w : Option (List ℕ)) (fault : WhyFault)
    → LookedKnown ranges o new count records → Appended u v (packets_text report m records)
    → IfSome o (λ c. Finished report ranges m c records end)
    → Closed v w (Err fault) (closing_text report m records end) → (fault ≡ why.Memory → report ≡ Graph)
    → IfSome o (λ c. Reported report ranges m c count u w (Err fault))
closed_by report ranges m None new count records end u v w fault known wrote done closed graph = tt
closed_by report ranges m (Some c) new count records end u v w why.Write known wrote done closed graph =
    rw done.text at (part-then u v w _ _ wrote closed)
closed_by report ranges m (Some c) new count records end u v w why.Memory known wrote done closed graph = (
  wrote_front report ranges m c known.0 count records u w known.2
      (rw (append-nil (packets_text report m records)) at (appended-then u v w _ [] wrote closed)),
  inr (graph refl),
)
closed_by report ranges m (Some c) new count records end u v w why.Read known wrote done closed graph = absurd closed

part_of_all : (u w : Option (List ℕ)) (text : List ℕ) → Appended u w text → AppendedPart u w text
part_of_all u w text x = rw (append-nil text) at (part-then u w w text [] x (part-take w w 0 [] (appended-nil w)))

module _ {A P : Type 0} (q : Question P) (old new : Reading) (d : Gathered A) (u v w : Option (List ℕ)) (is_over : Bool)
    (end : Option CaptureEnd) (went : Went q old new d u v) (ends : Ends q.packets.now old.left new is_over)
    (numbered : IfSome new.left (λ s. AreNumbered new.count s.records)) (is : end ≡ end_at new is_over) where
  done_by : IfSome old.left (λ c. Finished q.report q.packets.now (machine_in q) c went.records end)
  done_by = rw is
      (finished_by q.report (machine_in q) q.packets.now old.left new went.records is_over went.known ends numbered)

  pub unclosed : (fault : WhyFault)
      → Closed v w (Err fault) (closing_text q.report (machine_in q) went.records end)
      → (fault ≡ why.Memory → q.report ≡ Graph)
      → IfSome old.left (λ c. Reported q.report q.packets.now (machine_in q) c new.count u w (Err fault))
  unclosed fault closed graph =
      closed_by q.report q.packets.now (machine_in q) old.left new.left new.count went.records end u v w fault
      went.known went.wrote done_by closed graph

  -- all was written, and then flushed
  pub complete : (z : Option (List ℕ))
      → Appended v w (closing_text q.report (machine_in q) went.records end) → KeepsBytes w z
      → IfSome old.left (λ c. Reported q.report q.packets.now (machine_in q) c new.count u z (Ok end))
  complete z text kept = by old.left done_by
    where
      by : (o : Option Savefile) → IfSome o (λ c. Finished q.report q.packets.now (machine_in q) c went.records end)
          → IfSome o (λ c. Reported q.report q.packets.now (machine_in q) c new.count u z (Ok end))
      by None done = tt
      by (Some c) done =
          (done.is_end, rw done.text at (appended-kept u w z _ (appended-then u v w _ _ went.wrote text) kept))

  pub unflushed : (z : Option (List ℕ))
      → Appended v w (closing_text q.report (machine_in q) went.records end) → KeepsBytes w z
      → IfSome old.left (λ c. Reported q.report q.packets.now (machine_in q) c new.count u z (Err why.Write))
  unflushed z text kept = by old.left (complete z text kept)
    where
      by : (o : Option Savefile)
          → IfSome o (λ c. Reported q.report q.packets.now (machine_in q) c new.count u z (Ok end))
          → IfSome o (λ c. Reported q.report q.packets.now (machine_in q) c new.count u z (Err why.Write))
      by None h = tt
      by (Some c) h = part_of_all u z _ h.1
