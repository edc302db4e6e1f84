use Rattle.std.proofs.Common.{◌≡◌, ◌+◌, ◌%◌, [], ◌∷◌, ◌++◌, take, get_or, append_assoc, ap, sym, ◌∙◌, arith}
use Rattle.std.proofs.lemmas.List.{take_all, take_more}
use Rattle.pictures.specs.Checksums.{first_sum, second_sum}
use Rattle.pictures.proofs.Sums.{first_sum_push, second_sum_push}
use Rattle.pictures.proofs.checksum.Adler.add.Goals as goal

pub loop-byte-preserved : goal.loop-byte-preserved
loop-byte-preserved c =
    let loop = c.loop-byte in
    let bytes = c.args.bytes.now in
    let front = take loop.byte-index bytes in
    let byte = get_or bytes loop.byte-index 0 in
    record {
      first = omega arith;
      second = omega arith;
      sums = λ xs first second.
          let seen = xs ++ front in
          let so_far = loop.invariant.sums xs first second in
          let more : xs ++ take (loop.byte-index + 1) bytes ≡ seen ++ byte ∷ [] = ap (λ ys. xs ++ ys) (take_more bytes loop.byte-index 0 c.loop-byte-test.true) ∙ sym (append_assoc xs front (byte ∷ [])) in
          let added : loop.first + c.from.result ≡ first_sum seen + byte = cc in
          let first_is : (loop.first + c.from.result) % 65521 ≡ first_sum (seen ++ byte ∷ []) = ap (λ n. n % 65521) added ∙ sym (first_sum_push seen byte) in
          let both : loop.second + (loop.first + c.from.result) % 65521 ≡ second_sum seen + first_sum (seen ++ byte ∷ []) = cc in
          (first_is ∙ ap first_sum (sym more), ap (λ n. n % 65521) both ∙ sym (second_sum_push seen byte) ∙ ap second_sum (sym more));
    }

pub returns : goal.returns
returns c = λ xs first second.
    let bytes = c.args.bytes.now in
    let whole : take c.loop-byte.byte-index bytes ≡ bytes = take_all c.loop-byte.byte-index bytes c.loop-byte-test.false in
    rw whole at (c.loop-byte.invariant.sums xs first second)
