-- What is left of a capture, by the bytes in front and those that a reader has left.
use Rattle.std.proofs.Common.{◌≡◌, ℕ, zero, suc, ◌+◌, ◌<◌, ◌≤◌, List, [], ◌∷◌, ◌++◌, length, drop, take, take_all, ◌-◌, arith, refl, sym, ap, ◌∙◌}
use Rattle.std.proofs.Common.{Option, Some, None, Ok, Err, inl, inr, length-drop, length-take, length-append, append-nil}
use Rattle.std.specs.Prelude.{IfSome, IsSomeAnd}
use Rattle.std.specs.Option.{option_map}
use Rattle.std.specs.Io.KnownBytes.{Keeps, IsAtEnd, prepend_known}
use Rattle.std.proofs.lemmas.Bool.{cases_lt}
use Rattle.std.proofs.lemmas.Bool.Decides.{nat_tests}
use Rattle.std.proofs.lemmas.List.{drop-append-le, take-append-le}
use Rattle.std.proofs.Math.ListN.{get_or-append}
use Rattle.pcap_classic.specs.FileNumbers.{big_endian, little_endian, number_at}
use Rattle.pcap_classic.specs.declared.captured.{Endianness.Endianness, Extent.Extent, TheConstants.RECORD_HEADER}
use Rattle.pcap_classic.specs.declared.captured.Endianness.TheVariants.{Big, Little}
use Rattle.pcap_classic.specs.declared.captured.Extent.TheVariants.{Nothing, PartOfHeader, PartOfData, WholeRecord}
use Rattle.pcap_classic.specs.declared.ending.Ending.{Ending}
use Rattle.pcap_classic.specs.declared.header.{HeaderFault.HeaderFault, FileHeader.FileHeader, TheConstants.FILE_HEADER}
use Rattle.pcap_classic.specs.Records.{AreNumbered, Record, record_at, record_length}
use Rattle.pcap_classic.specs.Savefile.{Savefile, IsSavefile, IsHeaderRefusal}
use Rattle.pcap_classic.specs.Contents.{extent_of, header_of, savefile_from}
use Rattle.pcap_classic.specs.Index.{ending_by}
use Rattle.pcap_classic.specs.Reading.{Gives, HasRecord, NeedsRoom}
use Rattle.pcap_classic.specs.declared.reading.ReadFault.{ReadFault, TheVariants.Memory, TheVariants.Read}
use Rattle.pcap_classic.specs.declared.window.TheConstants.{ROOM}
use Rattle.pcap_classic.specs.Lent.{record_of}
use Rattle.pcap_classic.specs.declared.captured.Captured.{Captured}
use Rattle.pcap_classic.proofs.HoldsLemmas.{has_extent, contents-hold, holds-numbered, holds-once, extent-data, extent-whole}
use Rattle.pcap_classic.proofs.SavefileLemmas.{header-says, same_savefile}

-- ---- numbers and records in the first bytes

big-front : (n offset : ℕ) (xs ys : List ℕ) → offset + n ≤ length xs
    → big_endian (xs ++ ys) offset n ≡ big_endian xs offset n
big-front zero offset xs ys h = refl
big-front (suc n) offset xs ys h =
    rw (get_or-append xs ys 0 offset (omega (arith, h)), big-front n (offset + 1) xs ys (omega (arith, h))) refl

little-front : (n offset : ℕ) (xs ys : List ℕ) → offset + n ≤ length xs
    → little_endian (xs ++ ys) offset n ≡ little_endian xs offset n
little-front zero offset xs ys h = refl
little-front (suc n) offset xs ys h =
    rw (get_or-append xs ys 0 offset (omega (arith, h)), little-front n (offset + 1) xs ys (omega (arith, h))) refl

pub number-front : (order : Endianness) (offset n : ℕ) (xs ys : List ℕ) → offset + n ≤ length xs
    → number_at order offset n (xs ++ ys) ≡ number_at order offset n xs
unfolding number_at
number-front Big offset n xs ys h = big-front n offset xs ys h
number-front Little offset n xs ys h = little-front n offset xs ys h

-- a whole record in front, whatever follows
record WholeFront (order : Endianness) (n offset size : ℕ) (xs ys : List ℕ) : Type 0 where
  pub length_is : size ≡ record_length order xs
  pub within : size ≤ length xs
  pub whole : extent_of order (xs ++ ys) ≡ WholeRecord size
  pub same : record_at order n offset (xs ++ ys) ≡ record_at order n offset xs
  pub rest : drop size (xs ++ ys) ≡ drop size xs ++ ys

whole_front : (order : Endianness) (n offset size : ℕ) (xs ys : List ℕ) → extent_of order xs ≡ WholeRecord size
    → WholeFront order n offset size xs ys
whole_front order n offset size xs ys e =
    let front = rw e at (has_extent order n offset xs _ _ (contents-hold (length xs) order n offset xs (omega arith))) in
    let long : RECORD_HEADER ≤ length xs = omega (arith, front.0, front.1) in
    let captured = number-front order 8 4 xs ys (omega (arith, long)) in
    let joined = length-append xs ys in
    let seconds = number-front order 0 4 xs ys (omega (arith, long)) in
    let fraction = number-front order 4 4 xs ys (omega (arith, long)) in
    let wire = number-front order 12 4 xs ys (omega (arith, long)) in
    let size_is : record_length order (xs ++ ys) ≡ size = omega (arith, captured, front.0) in
    let after = drop-append-le RECORD_HEADER xs ys long in
    let bytes = take-append-le (number_at order 8 4 xs) (drop RECORD_HEADER xs) ys
    (omega (arith, front.0, front.1, length-drop RECORD_HEADER xs)) in
    record {
      length_is = front.0;
      within = front.1;
      whole = rw (← size_is) (extent-whole order (xs ++ ys) (omega (arith, size_is, front.1, joined)));
      same = rw (seconds, fraction, wire, captured, after, bytes) refl;
      rest = drop-append-le size xs ys front.1;
    }

-- ---- contents

-- what is left with a whole record in front
left-whole : (header : FileHeader) (n offset size : ℕ) (xs ys : List ℕ)
    → extent_of header.magic.order xs ≡ WholeRecord size
    → savefile_from header n offset (xs ++ ys)
    ≡ record (savefile_from header (n + 1) (offset + size) (drop size xs ++ ys)) {
      records = record_at header.magic.order n offset xs
          ∷ (savefile_from header (n + 1) (offset + size) (drop size xs ++ ys)).records;
    }
left-whole header n offset size xs ys e =
    let order : Endianness = header.magic.order in
    let f = whole_front order n offset size xs ys e in
    let own = rw f.whole at (has_extent order n offset (xs ++ ys) _ _
    (contents-hold (length (xs ++ ys)) order n offset (xs ++ ys) (omega arith))) in
    let rest = rw f.rest at own.4 in
    let same = holds-once order (n + 1) (offset + size) (drop size xs ++ ys) _ _ _ _
    (contents-hold (length (drop size xs ++ ys)) order (n + 1) (offset + size) (drop size xs ++ ys) (omega arith)) rest in
    same_savefile _ _ refl refl (own.3 ∙ ap (λ (r : Record). r ∷ own.2) f.same ∙ ap (λ (rs : List Record). record_at order n offset xs ∷ rs) same.0) same.1

-- the bytes from one on, up to the end
pub all_after : (xs : List ℕ) (n : ℕ) → take (length xs - n) (drop n xs) ≡ drop n xs
all_after xs n = take_all _ _ (omega (arith, length-drop n xs))

pub has-record : (header : FileHeader) (n offset size : ℕ) (bytes : List ℕ) (b : Option (List ℕ))
    → extent_of header.magic.order bytes ≡ WholeRecord size
    → IfSome (option_map (savefile_from header n offset) (prepend_known bytes b)) HasRecord
has-record header n offset size bytes None e = tt
has-record header n offset size bytes (Some rest) e = λ none.
    let whole = ap (λ (s : Savefile). s.records) (left-whole header n offset size bytes rest e) in absurd cc

-- what is left with no whole record in front
left-none : (header : FileHeader) (n offset : ℕ) (bytes : List ℕ) (extent : Extent)
    → extent_of header.magic.order bytes ≡ extent → ((size : ℕ) → extent ≡ WholeRecord size → ⊥)
    → ((savefile_from header n offset bytes).records ≡ [])
    × ((savefile_from header n offset bytes).ending ≡ ending_by extent offset)
left-none header n offset bytes (WholeRecord size) e none = absurd (none size refl)
left-none header n offset bytes Nothing e none =
    rw e at (has_extent header.magic.order n offset bytes _ _ (contents-hold (length bytes) header.magic.order n offset bytes (omega arith)))
left-none header n offset bytes PartOfHeader e none =
    rw e at (has_extent header.magic.order n offset bytes _ _ (contents-hold (length bytes) header.magic.order n offset bytes (omega arith)))
left-none header n offset bytes PartOfData e none =
    rw e at (has_extent header.magic.order n offset bytes _ _ (contents-hold (length bytes) header.magic.order n offset bytes (omega arith)))

pub left-numbered : (header : FileHeader) (count offset : ℕ) (bytes : Option (List ℕ))
    → IfSome (option_map (savefile_from header (count + 1) offset) bytes) (λ c. AreNumbered count c.records)
left-numbered header count offset None = tt
left-numbered header count offset (Some bytes) = λ i r at.
    let order : Endianness = header.magic.order in
    let is = holds-numbered order (count + 1) offset bytes _ _
    (contents-hold (length bytes) order (count + 1) offset bytes (omega arith)) i r at in
    omega (arith, is)

-- ---- a step

-- a record was read
pub given : (header : FileHeader) (count n offset size offset' : ℕ) (old new : List ℕ) (a b : Option (List ℕ))
    (how : Option Ending) (item : Captured) → Keeps (prepend_known old a) (prepend_known new b)
    → extent_of header.magic.order new ≡ WholeRecord size → offset' ≡ offset + size
    → record_of item ≡ record_at header.magic.order n offset new
    → IfSome (option_map (savefile_from header n offset) (prepend_known old a)) (λ c. Gives c (Ok (Some item)) (record {
      count = count;
      ended = how;
      left = option_map (savefile_from header (n + 1) offset') (prepend_known (drop size new) b);
    }))
given header count n offset size offset' old new None b how item k e at is = tt
given header count n offset size offset' old new (Some xs) None how item k e at is = absurd k
given header count n offset size offset' old new (Some xs) (Some ys) how item k e at is =
    let same : old ++ xs ≡ new ++ ys = sym k in (
      savefile_from header (n + 1) (offset + size) (drop size new ++ ys),
      rw at refl,
      rw (same, is) (left-whole header n offset size new ys e),
    )

-- the end was reached
pub ended : (header : FileHeader) (count n offset : ℕ) (old new : List ℕ) (a b : Option (List ℕ)) (extent : Extent)
    (how : Ending) → Keeps (prepend_known old a) (prepend_known new b)
    → ((extent_of header.magic.order new ≡ WholeRecord (record_length header.magic.order new) → ⊥) → IsAtEnd b)
    → extent_of header.magic.order new ≡ extent → ((size : ℕ) → extent ≡ WholeRecord size → ⊥)
    → how ≡ ending_by extent offset
    → IfSome (option_map (savefile_from header n offset) (prepend_known old a)) (λ c. Gives c (Ok None) (record {
      count = count;
      ended = Some how;
      left = option_map (savefile_from header n offset) (prepend_known new b);
    }))
ended header count n offset old new None b extent how k end e none is = tt
ended header count n offset old new (Some xs) None extent how k end e none is = absurd k
ended header count n offset old new (Some xs) (Some ys) extent how k end e none is =
    let same : old ++ xs ≡ new ++ ys = sym k in
    let all : new ++ ys ≡ new = ap (λ l. new ++ l) (end (λ whole. none _ (sym e ∙ whole))) ∙ append-nil new in
    let none_left = left-none header n offset new extent e none in
    rw (same, all) (none_left.0, ap Some (is ∙ sym none_left.1), refl)

-- where the room is full before a whole record is there, one longer than the room at first is next, or one that is cut
needs-room : (header : FileHeader) (n offset : ℕ) (xs ys : List ℕ) → ROOM ≤ length xs
    → length xs < record_length header.magic.order xs
    → NeedsRoom (savefile_from header n offset (xs ++ ys)).records (savefile_from header n offset (xs ++ ys)).ending
needs-room header n offset xs ys full more =
    let order : Endianness = header.magic.order in
    let all : List ℕ = xs ++ ys in
    let joined = length-append xs ys in
    let captured = number-front order 8 4 xs ys (omega (arith, full)) in
    let extent = has_extent order n offset all _ _ (contents-hold (length all) order n offset all (omega arith)) in
    elim (cases_lt (length all) (record_length order all)) [
      | inl cut ↦
          (let none = rw (extent-data order all (omega (arith, full, joined)) cut) at extent in
          rw none.0 (offset, none.1))
      | inr whole ↦
          (let front = rw (extent-whole order all whole) at extent in
          rw front.3 (omega (
            arith,
            full,
            more,
            captured,
            whole,
            length-drop RECORD_HEADER all,
            length-take (number_at order 8 4 all) (drop RECORD_HEADER all),
          )))
    ]

-- nothing was taken
pub stayed : (header : FileHeader) (count n offset : ℕ) (old new : List ℕ) (a b : Option (List ℕ)) (fault : ReadFault)
    → Keeps (prepend_known old a) (prepend_known new b)
    → (fault ≡ Memory → (ROOM ≤ length new) × (length new < record_length header.magic.order new))
    → IfSome (option_map (savefile_from header n offset) (prepend_known old a)) (λ c. Gives c (Err fault) (record {
      count = count;
      ended = None;
      left = option_map (savefile_from header n offset) (prepend_known new b);
    }))
stayed header count n offset old new None b fault k full = tt
stayed header count n offset old new (Some xs) None fault k full = absurd k
stayed header count n offset old new (Some xs) (Some ys) (Read e) k full =
    let same : old ++ xs ≡ new ++ ys = sym k in rw same refl
stayed header count n offset old new (Some xs) (Some ys) Memory k full =
    let same : old ++ xs ≡ new ++ ys = sym k in
    let long = full refl in
    rw same (refl, needs-room header n offset new ys long.0 long.1)

-- ---- the header

header-front : (xs ys : List ℕ) → FILE_HEADER ≤ length xs → header_of (xs ++ ys) ≡ header_of xs
header-front xs ys long =
    let joined = length-append xs ys in
    let big = number-front Big 0 4 xs ys (omega (arith, long)) in
    let little = number-front Little 0 4 xs ys (omega (arith, long)) in
    let big_major = number-front Big 4 2 xs ys (omega (arith, long)) in
    let little_major = number-front Little 4 2 xs ys (omega (arith, long)) in
    let big_minor = number-front Big 6 2 xs ys (omega (arith, long)) in
    let little_minor = number-front Little 6 2 xs ys (omega (arith, long)) in
    let big_link = number-front Big 20 4 xs ys (omega (arith, long)) in
    let little_link = number-front Little 20 4 xs ys (omega (arith, long)) in
    grind (arith, nat_tests)

header-long : (file : List ℕ) (header : FileHeader) → header_of file ≡ Ok header → FILE_HEADER ≤ length file
header-long file header e = elim (cases_lt (length file) FILE_HEADER) [
  | inl short ↦ absurd (grind (arith, nat_tests))
  | inr long ↦ long
]

-- the bytes after the header hold the capture
pub opened : (a b : Option (List ℕ)) (front : List ℕ) (header : FileHeader)
    → Keeps (prepend_known [] a) (prepend_known front b) → header_of front ≡ Ok header
    → IfSome a (λ file. IsSomeAnd (option_map (savefile_from header 1 FILE_HEADER) (prepend_known (drop FILE_HEADER front) b)) (IsSavefile file))
opened None b front header k e = tt
opened (Some file) None front header k e = absurd k
opened (Some file) (Some rest) front header k e =
    let long = header-long front header e in
    let says = header-says (front ++ rest) (Ok header) (Ok header) (sym (header-front front rest long ∙ e)) refl in
    let split = drop-append-le FILE_HEADER front rest long in
    rw (← k, ← split) says

-- the bytes have the fault
pub refused : (a b : Option (List ℕ)) (front : List ℕ) (fault : HeaderFault)
    → Keeps (prepend_known [] a) (prepend_known front b) → (length front < FILE_HEADER → IsAtEnd b)
    → header_of front ≡ Err fault → IfSome a (IsHeaderRefusal fault)
refused None b front fault k end e = tt
refused (Some file) None front fault k end e = absurd k
refused (Some file) (Some rest) front fault k end e = elim (cases_lt (length front) FILE_HEADER) [
  | inl short ↦
      (let all : front ++ rest ≡ front = ap (λ l. front ++ l) (end short) ∙ append-nil front in
      rw (← k, all) (header-says front (Err fault) (Err fault) (sym e) refl))
  | inr long ↦ rw (← k) (header-says (front ++ rest) (Err fault) (Err fault) (sym (header-front front rest long ∙ e)) refl)
]
