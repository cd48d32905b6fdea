-- Which packets of a capture are looked at (this project's own; packets are numbered from 1, as `tcpdump -#` does).
use Rattle.std.specs.Prelude.{◌≡◌, ℕ, ◌+◌, ◌≤◌, Bool, ◌&&◌, nat_le, nat_lt, List, [], ◌∷◌, filter, Option, Some, None}
use Rattle.std.specs.Prelude.{if◌then◌else◌}
use Rattle.std.proofs.Props.{props}
use Rattle.std.specs.List.{All, list_any}
use Rattle.pcap_classic.specs.Records.{Record}
use Rattle.cbpf_why.specs.declared.chosen.PacketRange.{PacketRange}

-- whether a packet's number is in a range
abbrev pub is_within : ℕ → PacketRange → Bool
is_within n range = nat_le range.first n && nat_le n range.last

-- the numbers of a range above `count`, if there are any; a capture of `count` packets lacks these
abbrev pub beyond : ℕ → PacketRange → Option PacketRange
beyond count range =
    if nat_le range.first range.last && nat_lt count range.last
    then Some (record { first = if nat_lt count range.first then range.first else count + 1; last = range.last }) else None

-- a packet is in one of the ranges
abbrev pub is_chosen : List PacketRange → ℕ → Bool
is_chosen ranges n = list_any (is_within n) ranges

-- the records that are looked at, in the capture's order
abbrev pub chosen : List PacketRange → List Record → List Record
chosen ranges records = filter (λ r. is_chosen ranges r.number) records

-- a range begins before another, or where it begins and ends no later
abbrev pub ComesFirst : PacketRange → PacketRange → Type 0
ComesFirst a b = (a.first ≤ b.first) × (a.first ≡ b.first → a.last ≤ b.last)

-- of two ranges of the list the one that stands before the other comes first
abbrev pub AreSorted : List PacketRange → Type 0
AreSorted [] = Unit {0}
AreSorted (range ∷ ranges) = All (ComesFirst range) ranges × AreSorted ranges

-- this is a fact, so a type may have it as an invariant
pub sorted_is_a_fact : (ranges : List PacketRange) → IsProp (AreSorted ranges)
sorted_is_a_fact [] = hlevel props
sorted_is_a_fact (range ∷ ranges) = let rest = sorted_is_a_fact ranges in hlevel (props, rest)
