use Rattle.std.proofs.Common.{◌≡◌, ◌+◌, ◌-◌, replicate, arith, rules}
use Rattle.disk.proofs.Undo.{overwritten_in_place}
use Rattle.disk.proofs.memory.crash.overwrite.Goals as goal

pub returns : goal.returns
returns c p l =
    let start = c.min-start.result in
    let count = c.min-count.result in
    let width : start + count - start ≡ count = omega arith in
    let filled : c.fill.new.self ≡ replicate count c.args.byte = search rules in
    rw (← c.write.view_is, width, filled) (overwritten_in_place c.args.file.now c.write.inside.offset c.write.inside.count start count c.args.byte p (search rules) (search rules) l)
