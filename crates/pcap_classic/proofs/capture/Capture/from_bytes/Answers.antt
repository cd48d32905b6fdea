use Rattle.std.proofs.Common.{rules}
use Rattle.pcap_classic.specs.Contents.{savefile_with}
use Rattle.pcap_classic.proofs.SavefileLemmas.{header-says}
use Rattle.pcap_classic.proofs.capture.Capture.from_bytes.Goals as goal

pub returns-in-Err-clause-refused : goal.returns-in-Err-clause-refused
returns-in-Err-clause-refused g c =
    header-says c.args.bytes.items _ _ (rw c.as_slice.ensures.value at c.header_of.ensures) c.in-Err.is

pub returns-in-Ok-index_of-clause-capture : goal.returns-in-Ok-index_of-clause-capture
returns-in-Ok-index_of-clause-capture g c =
    header-says c.args.bytes.items _ _ (rw c.as_slice.ensures.value at c.header_of.ensures) c.in-Ok.is

pub returns-in-Err-index_of-clause-refused : goal.returns-in-Err-index_of-clause-refused
returns-in-Err-index_of-clause-refused g c = (
  savefile_with c.in-Ok.header c.args.bytes.items,
  header-says c.args.bytes.items _ _ (rw c.as_slice.ensures.value at c.header_of.ensures) c.in-Ok.is,
  rw c.as_slice-2.ensures.value at c.in-Err-index_of.ensures.refused,
)

pub returns-in-Err-clause-handed_back : goal.returns-in-Err-clause-handed_back
returns-in-Err-clause-handed_back g c = search rules
