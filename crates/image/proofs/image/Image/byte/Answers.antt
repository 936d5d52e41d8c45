use Rattle.std.proofs.Common.{List, ap, ◌∙◌}
use Rattle.image.specs.Image.{ImageSegment, MemoryImage, image_byte, segments_byte}
use Rattle.image.proofs.image.Image.byte.Goals as goal

pub returns : goal.returns
returns c =
    c.byte_in.ensures ∙ ap (λ (ss : List ImageSegment). segments_byte ss c.args.address) c.deref.ensures.value
    ∙ ap (λ (m : MemoryImage). image_byte m c.args.address) c.self.view_is
