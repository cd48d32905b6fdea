-- The packets that ended with the same verdict by the same way of the same conditional jump, or at the same instruction
-- where no jump decided: how many, why, and the first of them; and how many packets ended with each verdict (this
-- project's own).
use Rattle.std.specs.Prelude.{◌≡◌, ◌<◌, Option, Some, None, IfSome, All, slice_get, ℕ, Bool, ◌==◌, ◌&&◌, ◌+◌, ◌*◌, unwrap_or, List, [], ◌∷◌, ◌++◌, length, codes, decimal, filter, count_by, if◌then◌else◌}
use Rattle.cbpf_code.specs.Listing.{line_text}
use Rattle.cbpf_code.specs.Text.{concat}
use Rattle.cbpf_code.specs.declared.insn.Insn.{Insn}
use Rattle.cbpf_machine.specs.declared.follow.Choice.{Choice}
use Rattle.cbpf_reply.specs.Packet.{texts_from}
use Rattle.cbpf_reply.specs.declared.reply.Counts.{Counts}
use Rattle.cbpf_why.specs.declared.ended.EndedBy.{EndedBy}
use Rattle.cbpf_why.specs.declared.ended.Ended.{Ended}
use Rattle.cbpf_why.specs.declared.groups.Group.{Group}
use Rattle.cbpf_why.specs.declared.ended.Verdict.{Verdict}
use Rattle.cbpf_why.specs.declared.ended.Verdict.TheVariants.{Pass, Fail, Unknown}
use Rattle.cbpf_why.specs.Ends.{verdict_in, is_verdict, verdict_of, reason_after, test_text}

-- Groups stand in rows, in the order of their lines: two for each instruction. In its second row are the packets on which
-- it decided as a conditional jump whose comparison didn't hold. In its first row are those on which it decided as one whose
-- comparison held, and those that ended at it with no jump that decided.
abbrev pub row_by : ℕ → Option Choice → ℕ
row_by pc None = 2 * pc
row_by pc (Some c) = 2 * c.pc + (if c.taken then 0 else 1)

-- the row of a packet that ended
abbrev pub row : EndedBy → ℕ
row d = row_by d.ended.pc d.by

-- whether a packet stands in a row with a verdict
abbrev pub is_in_group : ℕ → Verdict → EndedBy → Bool
is_in_group i v d = (row d == i) && is_verdict v (verdict_of d.ended.reason)

-- the packets in a row with a verdict, in order
abbrev pub group : List EndedBy → ℕ → Verdict → List EndedBy
group ends i v = filter (is_in_group i v) ends

-- where a packet ended: at its last instruction, or at a return, after the conditional jump that decided
abbrev pub end_place_text : List Insn → Ended → Option Choice → List ℕ
end_place_text list e None = line_text list e.pc ++ reason_after e.reason
end_place_text list e (Some c) = concat (test_text list c ∷ codes ", then " ∷ line_text list e.pc ∷ [])

-- The line of a group, by how many packets it has and its first one. The verdict, the instructions and the text of the
-- reason are those of each packet of the group, as `SameEnd` says. Only what a `ret a` returns may differ, and that isn't
-- written.
abbrev pub group_line : List Insn → ℕ → EndedBy → List ℕ
group_line list count first =
    concat (verdict_in first.ended ∷ codes " " ∷ decimal count ∷ codes " at " ∷ end_place_text list first.ended first.by
    ∷ codes ", first packet " ∷ decimal first.ended.packet ∷ codes "\n" ∷ [])

-- what is kept of a group: how many there are, and the first one
abbrev pub group_kept : List EndedBy → Group
group_kept es = record { count = length es; first = slice_get es 0 }

-- with a packet more
abbrev pub with_one : Group → EndedBy → Group
with_one g e = record { count = g.count + 1; first = Some (unwrap_or g.first e) }

-- by how many packets a group has, and its first one
abbrev pub group_text_by : List Insn → ℕ → Option EndedBy → List ℕ
group_text_by list count None = []
group_text_by list count (Some first) = group_line list count first

-- the line of a group, where it has packets
abbrev pub group_text : List Insn → Group → List ℕ
group_text list g = group_text_by list g.count g.first

-- in a row, those that passed before those that failed, and these before the others
abbrev pub groups_at : List Insn → List EndedBy → ℕ → List ℕ
groups_at list ends i = group_text list (group_kept (group ends i Pass))
    ++ (group_text list (group_kept (group ends i Fail)) ++ group_text list (group_kept (group ends i Unknown)))

-- a line for each group that has packets, in the order of the instructions
unfoldable pub groups_text : List Insn → List EndedBy → List ℕ
groups_text list ends = texts_from (groups_at list ends) 0 (2 * length list)

-- how many ended with a verdict
abbrev pub ended_with : List Ended → Verdict → ℕ
ended_with ends v = count_by (λ e. is_verdict v (verdict_of e.reason)) ends

-- how many passed, failed, and asked for an extension without a value
abbrev pub totals : List Ended → Counts
totals ends = record { passes = ended_with ends Pass; fails = ended_with ends Fail; unknown = ended_with ends Unknown }

-- ---- what is kept of all groups

-- for each verdict a list with a group for each row; and the totals
pub record AllKept : Type 0 where
  pub passed : List Group
  pub failed : List Group
  pub unknown : List Group
  pub totals : Counts

abbrev pub by_verdict : AllKept → Verdict → List Group
by_verdict k Pass = k.passed
by_verdict k Fail = k.failed
by_verdict k Unknown = k.unknown

-- the groups of a verdict, by row
abbrev pub AreGroups : List EndedBy → Verdict → List Group → Type 0
AreGroups ends v groups = (i : ℕ) → i < length groups → slice_get groups i ≡ Some (group_kept (group ends i v))

-- a packet ended in a program of so many instructions, and its jump is one of them
pub record HasRow (count : ℕ) (d : EndedBy) : Type 0 where
  pub pc : d.ended.pc < count
  pub by : IfSome d.by (λ c. c.pc < count)

-- how many ended with a verdict, and the totals
abbrev pub counted_of : List EndedBy → Verdict → ℕ
counted_of ends v = count_by (λ d. is_verdict v (verdict_of d.ended.reason)) ends

abbrev pub all_totals : List EndedBy → Counts
all_totals ends =
    record { passes = counted_of ends Pass; fails = counted_of ends Fail; unknown = counted_of ends Unknown }

-- what is kept of packets that ended in a program of so many instructions
pub record KeepsAll (k : AllKept) (count : ℕ) (ends : List EndedBy) : Type 0 where
  pub groups : (v : Verdict) → AreGroups ends v (by_verdict k v)
  pub long : (v : Verdict) → length (by_verdict k v) ≡ 2 * count
  pub inside : All (HasRow count) ends
  pub totals : k.totals ≡ all_totals ends
