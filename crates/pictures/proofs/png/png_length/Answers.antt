use Rattle.std.proofs.Common.{◌≡◌, ◌+◌, ◌*◌, sym, ap, ◌∙◌, arith}
use Rattle.pictures.proofs.Rows.{file_length, row_chunk_length}
use Rattle.pictures.proofs.png.png_length.Goals as goal

pub returns : goal.returns
returns c = λ picture.
    let w = c.args.size.width in
    let chunk = 12 + 5 * c.div_ceil-blocks.result + (1 + 3 * c.from.result) in
    let one : chunk ≡ row_chunk_length w = omega (arith, c.div_ceil-blocks.ensures, c.from.ensures) in
    let all : c.from-2.result * chunk ≡ c.args.size.height * row_chunk_length w = ap (λ n. c.from-2.result * n) one ∙ ap (λ n. n * row_chunk_length w) c.from-2.ensures in
    file_length w c.args.size.height picture ∙ ap (λ n. 8 + 25 + 14 + n + 21 + 12) (sym all)
