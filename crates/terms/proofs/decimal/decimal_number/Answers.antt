use Rattle.std.proofs.Common.{◌∙◌, ◌≡◌, true}
use Rattle.std.specs.Char.{is_ascii_digit}
use Rattle.std.specs.List.{list_all}
use Rattle.std.specs.Str.{IsUtf8}
use Rattle.terms.proofs.Decimals.{number_parsed, digits_text, text_is, text_is_read}
use Rattle.terms.proofs.decimal.decimal_number.Goals as goal

pub returns-in_err-ok : goal.returns-in_err-ok
returns-in_err-ok c =
    let digits : list_all is_ascii_digit c.args.word.now ≡ true = cc in
    absurd (text_is_read _ (IsUtf8 c.args.word.now) _ c.from_utf8.result c.from_utf8.ensures.cases (digits_text c.args.word.now digits) c.in_err-ok.ensures.variant)

pub returns : goal.returns
returns c =
    let digits : list_all is_ascii_digit c.args.word.now ≡ true = cc in
    let same = text_is (λ t. t.now) c.args.word.now (IsUtf8 c.args.word.now) _ c.from_utf8.result c.in_ok-ok.field-0 c.from_utf8.ensures.cases c.in_ok-ok.ensures.value in
    let of_text = rw same at c.parse.ensures.value.0 in
    c.ok-2.ensures.value ∙ number_parsed c.args.word.now c.parse.result of_text digits
