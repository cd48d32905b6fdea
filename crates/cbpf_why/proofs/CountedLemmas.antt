-- How a packet ended, and what one packet more does to what is counted.
use Rattle.std.proofs.Common.{◌≡◌, ℕ, ◌+◌, List, [], ◌∷◌, ◌++◌, length, arith, refl, sym, ap, ◌∙◌, length-append}
use Rattle.std.specs.Prelude.{Bool, true, false, Option}
use Rattle.cbpf_why.specs.declared.gathered.Gathered.{Gathered}
use Rattle.cbpf_why.specs.declared.question.Question.{Question}
use Rattle.cbpf_why.specs.Groups.{KeepsAll}
use Rattle.std.proofs.lemmas.List.Sums.{sum_by_push}
use Rattle.cbpf_machine.specs.InPlace.{turn_of}
use Rattle.cbpf_machine.specs.Machine.{Machine}
use Rattle.cbpf_machine.specs.Registers.{Registers, zero_state}
use Rattle.cbpf_machine.specs.Trace.{last_or, trace}
use Rattle.cbpf_machine.specs.Turn.{turn}
use Rattle.cbpf_machine.specs.Choices.{Counted, executed_in, last_choice, taken_in, runs_at}
use Rattle.cbpf_machine.specs.declared.follow.Choice.{Choice}
use Rattle.cbpf_why.specs.declared.ended.Ended.{Ended}
use Rattle.cbpf_why.specs.declared.report.Report.{Report}
use Rattle.cbpf_why.specs.declared.report.Report.TheVariants.{Summary, Traces, Packets, Coverage, Graph}
use Rattle.cbpf_machine.specs.declared.outcome.End.{End}
use Rattle.cbpf_machine.specs.declared.outcome.End.TheVariants.{Returned, Outside, ZeroDivisor, Unknown}
use Rattle.pcap_classic.specs.Records.{Record}
use Rattle.cbpf_why.specs.Ends.{only_ended, only_ended_of, decided, decided_of, deciding, end_by, ended, ended_at}
use Rattle.cbpf_why.specs.Columns.{IsLongest}
use Rattle.cbpf_why.specs.Taking.{Tallies, HasGathered, counts_groups, counts_runs, kept_end, kept_ends, where_counted}
use Rattle.cbpf_why.specs.Question.{machine_in}
use Rattle.cbpf_why.specs.Runs.{executed, taken}

end_is : (e : End) → end_by (turn_of e) ≡ e
end_is (Returned v) = refl
end_is Outside = refl
end_is ZeroDivisor = refl
end_is (Unknown e) = refl

-- how a packet ended, by its last state and its reason
pub ended-is : (m : Machine) (r : Record) (last : Registers) (reason : End)
    → last ≡ last_or zero_state (trace m r.bytes r.wire) → turn m r.bytes r.wire last ≡ turn_of reason
    → record { packet = r.number; pc = last.pc; reason = reason } ≡ ended m r
ended-is m r last reason is made =
    ap (λ e. record { packet = r.number; pc = last.pc; reason = e }) (sym (ap end_by made ∙ end_is reason))
    ∙ ap (ended_at m r) is

-- and what decided it
pub decided-is : (m : Machine) (r : Record) (e : Ended) (choice : Option Choice) → e ≡ ended m r
    → choice ≡ last_choice m.list (trace m r.bytes r.wire)
    → record { ended = e; by = deciding e.reason choice } ≡ decided m r
decided-is m r e choice is last = rw (is, last) refl

-- one packet more
pub kept_ends-more : (report : Report) (m : Machine) (records : List Record) (r : Record)
    → kept_ends report m (records ++ r ∷ []) ≡ kept_ends report m records ++ kept_end report m r ∷ []
kept_ends-more report m [] r = refl
kept_ends-more report m (x ∷ xs) r = ap (λ l. kept_end report m x ∷ l) (kept_ends-more report m xs r)

-- what the groups keep for each report
pub kept-summary : (m : Machine) (records : List Record) → kept_ends Summary m records ≡ decided_of m records
kept-summary m [] = refl
kept-summary m (x ∷ xs) = ap (λ l. decided m x ∷ l) (kept-summary m xs)

pub kept-graph : (m : Machine) (records : List Record) → kept_ends Graph m records ≡ only_ended_of m records
kept-graph m [] = refl
kept-graph m (x ∷ xs) = ap (λ l. only_ended m x ∷ l) (kept-graph m xs)

kept-only_ended : (report : Report) (m : Machine) (r : Record) → counts_runs report ≡ true → kept_end report m r ≡ only_ended m r
kept-only_ended Summary m r h = absurd cc
kept-only_ended Coverage m r h = refl
kept-only_ended Graph m r h = refl
kept-only_ended Traces m r h = refl
kept-only_ended Packets m r h = refl

pub tallies-more : (old new : Counted) (m : Machine) (records : List Record) (r : Record) → Tallies old m records
    → new.packets ≡ old.packets + 1 → length new.runs ≡ length old.runs
    → ((i : ℕ) → (runs_at new.runs i).executed ≡ (runs_at old.runs i).executed + executed_in (trace m r.bytes r.wire) i)
    → ((i : ℕ) → (runs_at new.runs i).taken ≡ (runs_at old.runs i).taken + taken_in m.list (trace m r.bytes r.wire) i)
    → Tallies new m (records ++ r ∷ [])
tallies-more old new m records r had packets long ran held = record {
  packets = omega (arith, packets, had.packets, length-append records (r ∷ []));
  long = long ∙ had.long;
  runs = λ i.
      let e : (runs_at new.runs i).executed ≡ executed m (records ++ r ∷ []) i =
      ran i ∙ ap (λ (n : ℕ). n + executed_in (trace m r.bytes r.wire) i) (ap (λ x. x.executed) (had.runs i))
      ∙ sym (sum_by_push (λ x. executed_in (trace m x.bytes x.wire) i) records r) in
      let t : (runs_at new.runs i).taken ≡ taken m (records ++ r ∷ []) i =
      held i ∙ ap (λ (n : ℕ). n + taken_in m.list (trace m r.bytes r.wire) i) (ap (λ x. x.taken) (had.runs i))
      ∙ sym (sum_by_push (λ x. taken_in m.list (trace m x.bytes x.wire) i) records r) in
      ap (λ (n : ℕ). record { executed = n; taken = (runs_at new.runs i).taken }) e
      ∙ ap (λ (n : ℕ). record { executed = executed m (records ++ r ∷ []) i; taken = n }) t;
}

module _ {A P : Type 0} (q : Question P) where
  -- a packet more in the groups
  pub took-groups : (old new : Gathered A) (records : List Record) (r : Record) → q.report ≡ Summary → HasGathered q old records
      → new.tally ≡ old.tally → new.longest ≡ old.longest
      → KeepsAll new.groups (length q.program.now) (kept_ends Summary (machine_in q) records ++ decided (machine_in q) r ∷ [])
      → HasGathered q new (records ++ r ∷ [])
  took-groups old new records r s t same long keeps = record {
    groups = rw (s, kept_ends-more Summary (machine_in q) records r) keeps;
    runs = rw (s, same) (rw s at t.runs);
    longest = rw long t.longest;
  }

  -- and in the tally
  pub took-both : (new : Gathered A) (records : List Record) (r : Record) → counts_groups q.report ≡ true
      → counts_runs q.report ≡ true
      → KeepsAll new.groups (length q.program.now) (kept_ends q.report (machine_in q) records ++ only_ended (machine_in q) r ∷ [])
      → Tallies new.tally (machine_in q) (records ++ r ∷ []) → IsLongest new.longest q.program.now → HasGathered q new (records ++ r ∷ [])
  took-both new records r g s keeps tallies long = record {
    groups = rw (g, kept_ends-more q.report (machine_in q) records r, kept-only_ended q.report (machine_in q) r s) keeps;
    runs = rw s tallies;
    longest = long;
  }

  -- what was kept of the records, where it is counted
  pub groups_counted : (c : Gathered A) (records : List Record) → counts_groups q.report ≡ true → HasGathered q c records
      → KeepsAll c.groups (length q.program.now) (kept_ends q.report (machine_in q) records)
  groups_counted c records g t = rw g at t.groups

  pub summary_counted : (c : Gathered A) (records : List Record) → q.report ≡ Summary → HasGathered q c records
      → KeepsAll c.groups (length q.program.now) (kept_ends Summary (machine_in q) records)
  summary_counted c records s t = rw s at t.groups

  pub graph_counted : (c : Gathered A) (records : List Record) → q.report ≡ Graph → HasGathered q c records
      → KeepsAll c.groups (length q.program.now) (only_ended_of (machine_in q) records)
  graph_counted c records s t = rw (kept-graph (machine_in q) records) at (rw s at t.groups)

  pub runs_counted : (c : Gathered A) (records : List Record) → counts_runs q.report ≡ true → HasGathered q c records
      → Tallies c.tally (machine_in q) records
  runs_counted c records s t = rw s at t.runs

pub length-kept : (report : Report) (m : Machine) (records : List Record) → length (kept_ends report m records) ≡ length records
length-kept report m [] = refl
length-kept report m (x ∷ xs) = let rest = length-kept report m xs in omega (arith, rest)

-- nothing is counted yet
pub took-nothing : {A P : Type 0} (q : Question P) (c : Gathered A) → KeepsAll c.groups (length q.program.now) []
    → Tallies c.tally (machine_in q) [] → IsLongest c.longest q.program.now → HasGathered q c []
took-nothing q c keeps tallies long = record {
  groups = rw (none (counts_groups q.report)) keeps;
  runs = rw (none (counts_runs q.report)) tallies;
  longest = long;
}
  where
    none : (b : Bool) → where_counted b [] ≡ []
    none true = refl
    none false = refl
