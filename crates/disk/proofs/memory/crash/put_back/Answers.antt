use Rattle.std.proofs.Common.{◌≡◌, ◌+◌, ◌-◌, take, arith, rules}
use Rattle.disk.proofs.Undo.{undone_in_place}
use Rattle.disk.proofs.memory.crash.put_back.Goals as goal

pub returns : goal.returns
returns c =
    let start = c.min-start.result in
    let count = c.min-count.result in
    let copied : c.copy_from_slice.new.self ≡ take count c.write.inside.replaced.items = search rules in
    let width : start + count - start ≡ count = omega arith in
    rw (← c.write.view_is, copied, width) (undone_in_place _ c.args.file.now start count (search rules) (search rules))
