use Rattle.cbpf_code.proofs.SlotMaskLemmas.{adds_to_masks-one}
use Rattle.cbpf_code.proofs.slots.add_to_mask.Goals as goal

pub returns : goal.returns
returns c = adds_to_masks-one c.args.masks.now c.args.at c.args.mask c.requires
