-- What a file holds, by the relations and by the function of its bytes.
use Rattle.std.proofs.Common.{◌≡◌, ℕ, Bool, true, false, List, length, drop, Option, Some, None, Result, Ok, Err}
use Rattle.std.proofs.Common.{◌⊎◌, inl, inr, arith, refl, ◌≤◌, ◌∙◌, sym, ap}
use Rattle.std.specs.Prelude.{nat_lt, if◌then◌else◌}
use Rattle.pcap_classic.specs.FileNumbers.{number_at}
use Rattle.std.proofs.lemmas.Bool.{ltb-false, ltb-true}
use Rattle.std.proofs.lemmas.Bool.Decides.{nat_tests}
use Rattle.pcap_classic.specs.Savefile.{Savefile, IsSavefile, IsRefusal, HasMagic, HasVersion, OneCapture, OneRefusal, OnlyMemory}
use Rattle.pcap_classic.specs.Savefile.{HasAnswer, IsHeaderRefusal}
use Rattle.pcap_classic.specs.Contents.{magic_of, is_version_2_4, header_by_magic, header_of, savefile_with}
use Rattle.pcap_classic.specs.declared.captured.Endianness.{Endianness, TheVariants.Big, TheVariants.Little}
use Rattle.pcap_classic.specs.declared.header.CaptureFault.{CaptureFault, TheVariants.Header, TheVariants.Memory}
use Rattle.pcap_classic.specs.declared.header.HeaderFault.{HeaderFault}
use Rattle.pcap_classic.specs.declared.header.HeaderFault.TheVariants.{FileHeaderCut, UnknownMagic, UnknownVersion}
use Rattle.pcap_classic.specs.declared.header.{Magic.Magic, FileHeader.FileHeader, TheConstants.FILE_HEADER}
use Rattle.pcap_classic.proofs.HoldsLemmas.{contents-hold, holds-once}

-- the function of the magic finds it, so that there is one alone
magic-found : (file : List ℕ) (order : Endianness) (nanos : Bool) → HasMagic order nanos file
    → magic_of file ≡ Some (record { order = order; nanos = nanos })
unfolding number_at
magic-found file Big true h = grind (arith, nat_tests)
magic-found file Big false h = grind (arith, nat_tests)
magic-found file Little true h = grind (arith, nat_tests)
magic-found file Little false h = grind (arith, nat_tests)

one_magic : (file : List ℕ) (order order' : Endianness) (nanos nanos' : Bool) → HasMagic order nanos file
    → HasMagic order' nanos' file → (order' ≡ order) × (nanos' ≡ nanos)
one_magic file order order' nanos nanos' a b =
    let found = magic-found file order nanos a in
    let other = magic-found file order' nanos' b in
    (grind arith, grind arith)

-- what the function of the header gives
abbrev pub Says : List ℕ → Result FileHeader HeaderFault → Type 0
Says file (Ok header) = IsSavefile file (savefile_with header file)
Says file (Err fault) = IsHeaderRefusal fault file

-- what the function finds is there
magic-is : (file : List ℕ) (m : Magic) → magic_of file ≡ Some m → HasMagic m.order m.nanos file
magic-is file m h = grind (arith, nat_tests)

version-is : (order : Endianness) (file : List ℕ) → is_version_2_4 order file ≡ true → HasVersion order file
version-is order file h = (grind (arith, nat_tests), grind (arith, nat_tests))

version-found : (order : Endianness) (file : List ℕ) → HasVersion order file → is_version_2_4 order file ≡ true
version-found order file h = grind (arith, nat_tests)

says : (file : List ℕ) → Says file (header_of file)
says file = by (nat_lt (length file) FILE_HEADER) refl (magic_of file) refl
  where
    by_version : (m : Magic) → FILE_HEADER ≤ length file → HasMagic m.order m.nanos file → (b : Bool)
        → is_version_2_4 m.order file ≡ b
        → Says file (if b then Ok (record { magic = m; link = number_at m.order 20 4 file }) else Err UnknownVersion)
    by_version m long magic true h = record {
      order = m.order;
      long = long;
      magic = magic;
      version = version-is m.order file h;
      link = refl;
      contents = contents-hold _ m.order 1 FILE_HEADER _ (omega arith);
    }
    by_version m long magic false h =
        (long, m.order, m.nanos, magic, λ v. let is = version-found m.order file v in absurd (cc))

    by : (b : Bool) → nat_lt (length file) FILE_HEADER ≡ b → (m : Option Magic) → magic_of file ≡ m
        → Says file (if b then Err FileHeaderCut else header_by_magic m file)
    by true short m e = ltb-true (length file) FILE_HEADER short
    by false long None e =
        (ltb-false _ FILE_HEADER long, λ order nanos h. let is = magic-found file order nanos h in absurd (cc), refl)
    by false long (Some m) e =
        by_version m (ltb-false (length file) FILE_HEADER long) (magic-is file m e) (is_version_2_4 m.order file) refl

pub same_savefile : (c d : Savefile) → d.nanos ≡ c.nanos → d.link ≡ c.link → d.records ≡ c.records → d.ending ≡ c.ending
    → d ≡ c
same_savefile c d n l r e = grind arith

-- two captures of a file are one
pub one_capture : OneCapture
one_capture file c d h k =
    let magic = one_magic file h.order k.order c.nanos d.nanos h.magic k.magic in
    let link : d.link ≡ c.link = rw (magic.0) at k.link ∙ sym h.link in
    let same = holds-once h.order 1 FILE_HEADER (drop FILE_HEADER file) c.records d.records c.ending d.ending h.contents
    (rw magic.0 at k.contents) in
    same_savefile c d magic.1 link same.0 same.1

pub only_memory : OnlyMemory
only_memory file c Memory h k = refl
only_memory file c (Header FileHeaderCut) h k = let long = h.long in absurd (omega (arith, k))
only_memory file c (Header (UnknownMagic magic)) h k = absurd (k.1 h.order c.nanos h.magic)
only_memory file c (Header UnknownVersion) h k =
    absurd (k.4 (rw (← (one_magic file k.1 h.order k.2 c.nanos k.3 h.magic).0) h.version))

pub one_refusal : OneRefusal
one_refusal file Memory f h k = only_memory file h.0 f h.1 k
one_refusal file e Memory h k = sym (only_memory file k.0 e k.1 h)
one_refusal file (Header (UnknownMagic m)) (Header (UnknownMagic n)) h k = ap (λ x. Header (UnknownMagic x)) (k.2 ∙ sym h.2)
one_refusal file (Header UnknownVersion) (Header UnknownVersion) h k = refl
one_refusal file (Header (UnknownMagic m)) (Header UnknownVersion) h k = absurd (h.1 k.1 k.2 k.3)
one_refusal file (Header UnknownVersion) (Header (UnknownMagic m)) h k = absurd (k.1 h.1 h.2 h.3)
one_refusal file (Header FileHeaderCut) (Header FileHeaderCut) h k = refl
one_refusal file (Header FileHeaderCut) (Header _) h k = absurd (omega (arith, h, k.0))
one_refusal file (Header _) (Header FileHeaderCut) h k = absurd (omega (arith, k, h.0))

pub has_answer : HasAnswer
has_answer file = by (header_of file) (says file)
  where
    by : (r : Result FileHeader HeaderFault) → Says file r
        → ((c : Savefile) × IsSavefile file c) ⊎ ((e : CaptureFault) × IsRefusal e file)
    by (Ok header) s = inl (savefile_with header file, s)
    by (Err e) s = inr (Header e, s)

-- what a file's header says of it
pub header-says : (file : List ℕ) (r header : Result FileHeader HeaderFault) → r ≡ header_of file → r ≡ header
    → Says file header
header-says file r header e is = rw (sym e ∙ is) at (says file)
