use Rattle.std.proofs.Common.{rules}
use Rattle.cbpf_text.proofs.ListedLaw.{listing_assembles}
use Rattle.cbpf_text.proofs.round_trip.write_listing.Goals as goal

pub returns-clause-assembles : goal.returns-clause-assembles
returns-clause-assembles g c =
    listing_assembles c.args.p.now c.as_slice-list.ensures.sound c.as_slice-list.ensures.ranges

pub returns-clause-written : goal.returns-clause-written
returns-clause-written g c = search rules
