-- How a run goes on over the packets of a capture. No public clause names it.
use Rattle.std.specs.Prelude.{◌≡◌, ℕ, ◌+◌, ◌*◌, ◌<◌, ◌≤◌, ◌^◌, List, length, Bool, true, false}
use Rattle.cbpf_code.specs.declared.checker.TheConstants.{MAX_INSTRUCTIONS}
use Rattle.cbpf_machine.specs.Machine.{Machine}
use Rattle.cbpf_machine.specs.Registers.{Registers}
use Rattle.cbpf_machine.specs.Turn.{turn}
use Rattle.cbpf_reply.specs.declared.reply.Place.{Place}
use Rattle.cbpf_dbg.specs.declared.cursor.Walk.{Walk}
use Rattle.cbpf_dbg.specs.declared.loaded.Loaded.{Loaded}
use Rattle.cbpf_dbg.specs.Loaded.{machine_in, records_in, breakpoints_in}
use Rattle.cbpf_dbg.specs.Breakpoints.{Breakpoints}
use Rattle.cbpf_dbg.specs.Joined.{is_hit_by, stops_after, place_before}
use Rattle.cbpf_dbg.specs.Here.{Keeps}
use Rattle.cbpf_dbg.specs.Cursor.{Stands, IsEnd, AreLeft, Passes, owed}

-- a trail stands for the entries of a place's packet up to its step
abbrev pub KeepsIn : {A : Type 0} → (List Registers → Type 0) → Loaded A → Place → Type 0
KeepsIn stands_for l place = Keeps stands_for (machine_in l) (records_in l) place

-- a run pauses at each entry that is a hit
abbrev pub Covers : (Registers → Bool) → Machine → Breakpoints → Type 0
Covers pauses machine breakpoints = (bytes : List ℕ) (wire : ℕ) (s : Registers) → s.pc < length machine.list
    → is_hit_by breakpoints s (turn machine bytes wire s) ≡ true → pauses s ≡ true

-- a run can go on over the records that are left, up to its end
pub record CanGoOn {A : Type 0} (l : Loaded A) (w : Walk) (spent : ℕ) : Type 0 where
  pub stands : Stands (machine_in l) (records_in l) w.cursor
  pub left : AreLeft (records_in l) w.cursor.place w.left
  pub ends : IsEnd (records_in l) w.cursor.place w.end
  pub spare : spent + owed (machine_in l) (records_in l) w.cursor.place + 2 * MAX_INSTRUCTIONS ≤ 2 ^ 128

-- A run goes on. If it paused, it is at an entry at which it pauses, and else before a packet. If it pauses at each hit,
-- it passed none. The records left begin with the one at the new place.
pub record GoesOn {A : Type 0} (l : Loaded A) (pauses : Registers → Bool) (old new : Walk) (spent_old spent_new : ℕ)
    (paused : Bool) : Type 0 where
  pub passes : Passes (machine_in l) (records_in l) old.cursor new.cursor spent_old spent_new
  pub hits : Covers pauses (machine_in l) (breakpoints_in l) → stops_after (machine_in l) (records_in l) (breakpoints_in l)
      old.cursor.place ≡ stops_after (machine_in l) (records_in l) (breakpoints_in l) (place_before new.cursor.place)
  pub left : AreLeft (records_in l) new.cursor.place new.left
  pub ends : IsEnd (records_in l) new.cursor.place new.end
  pub same : new.end ≡ old.end
  pub entry : paused ≡ true → (0 < new.cursor.place.step) × (pauses new.cursor.state ≡ true)
  pub out : paused ≡ false → new.cursor.place.step ≡ 0
