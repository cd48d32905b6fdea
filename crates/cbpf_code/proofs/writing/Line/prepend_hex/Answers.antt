use Rattle.std.proofs.Common.{◌≡◌, ◌∙◌, ◌+◌, ◌-◌, ◌/◌, ◌++◌, drop, ap, sym, arith}
use Rattle.std.proofs.lemmas.List.{drop-drop}
use Rattle.cbpf_code.proofs.HexLemmas.{hex_digits, hex-last, four-bytes, log-places}
use Rattle.cbpf_code.proofs.writing.Line.prepend_hex.Goals as goal

pub returns-clause-text : goal.returns-clause-text
returns-clause-text c =
    let n = c.args.n in
    let skipped = 8 - c.max-2.result in
    let whole : c.prepend_byte-4.new.self ≡ hex_digits 8 n ++ c.args.self.now =
    cc (four-bytes n c.args.self.now c.ranges.n.fits) in
    let places = log-places n c.ilog2.result (omega arith) (omega arith) in
    sym (drop-drop skipped c.self.inside.at c.self.inside.bytes) ∙ ap (λ t. drop skipped t) (c.self.view_is ∙ whole)
    ∙ rw c.max-2.ensures
    (hex-last c.args.least n (c.ilog2.result / 4 + 1) c.args.self.now places (omega arith) c.requires.few)
