-- The order of places (this project's own).
use Rattle.std.specs.Prelude.{Bool, ◌||◌, ◌&&◌, nat_lt, nat_eq}
use Rattle.cbpf_reply.specs.declared.reply.Place.{Place}

-- the first place is before the second: its packet is earlier, or its step in the same packet
abbrev pub is_before : Place → Place → Bool
is_before a b = nat_lt a.packet b.packet || (nat_eq a.packet b.packet && nat_lt a.step b.step)
