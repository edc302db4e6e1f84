use Rattle.std.proofs.Common.{◌≡◌, ◌+◌, ◌≤◌, ◌∙◌, length, arith}
use Rattle.std.proofs.lemmas.Grind.{common_steps}
use Rattle.pixel_format.specs.Pixel.{converted}
use Rattle.pixel_format.proofs.Eights.{more, same_length}
use Rattle.pixel_format.proofs.format.PixelFormat.convert_eights.Goals as goal

pub eights-preserved : goal.eights-preserved
eights-preserved c =
    let i = c.eights.i in
    let within : i + 8 ≤ length c.args.colors.now = omega (arith, c.eights-test.true) in
    let within_row : i + 8 ≤ length c.eights.row = omega (arith, within, c.eights.invariant.size) in
    let long : length c.copy_from_slice.new.self ≡ 8 = c.copy_from_slice.ensures.len ∙ omega (arith, within_row) in
    record {
      within = within;
      size = same_length 8 i c.eights.row c.copy_from_slice.new.self within_row long ∙ c.eights.invariant.size;
      done = more (converted c.args.self.now) 8 i c.args.colors.now c.eights.row c.copy_from_slice.new.self within c.eights.invariant.size
          c.eights.invariant.done (c.copy_from_slice.ensures.after ∙ c.convert_eight-eight.ensures);
    }

pub convert_eight-eight-requires-clause-screen : goal.convert_eight-eight-requires-clause-screen
convert_eight-eight-requires-clause-screen c = grind (arith, common_steps)
