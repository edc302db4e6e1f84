-- Texts that are appended part by part.
use Rattle.std.proofs.Common.{◌≡◌, ◌<◌, ℕ, ◌+◌, ◌-◌, suc, List, ◌++◌, sym, ap, ◌∙◌, arith, append_assoc}
use Rattle.pixel_format.specs.Canvas.{Picture}
use Rattle.pictures.specs.declared.plain.PlainFormat.{PlainFormat}
use Rattle.pictures.specs.Plain.{pixel_text, row_at, row_text, rows_text}

pub row_step : (f : PlainFormat) (picture : Picture) (y x w : ℕ) → x < w → row_text f picture y x (w - x) ≡ pixel_text f (picture x y) ++ row_text f picture y (x + 1) (w - (x + 1))
row_step f picture y x w inside =
    let one : w - x ≡ suc (w - (x + 1)) = omega arith in
    ap (row_text f picture y x) one

pub rows_step : (f : PlainFormat) (picture : Picture) (w h slot : ℕ) → slot < h
    → rows_text f picture w h slot (h - slot) ≡ row_text f picture (row_at f h slot) 0 w ++ rows_text f picture w h (slot + 1) (h - (slot + 1))
rows_step f picture w h slot inside =
    let one : h - slot ≡ suc (h - (slot + 1)) = omega arith in
    ap (rows_text f picture w h slot) one

pub one_more : (out next more left all : List ℕ) → out ++ left ≡ all → left ≡ next ++ more → (out ++ next) ++ more ≡ all
one_more out next more left all e is = append_assoc out next more ∙ ap (λ z. out ++ z) (sym is) ∙ e

pub five_parts : (o p1 p2 p3 p4 p5 : List ℕ) → ((((o ++ p1) ++ p2) ++ p3) ++ p4) ++ p5 ≡ o ++ (p1 ++ (p2 ++ (p3 ++ (p4 ++ p5))))
five_parts o p1 p2 p3 p4 p5 =
    append_assoc (((o ++ p1) ++ p2) ++ p3) p4 p5
    ∙ append_assoc ((o ++ p1) ++ p2) p3 (p4 ++ p5)
    ∙ append_assoc (o ++ p1) p2 (p3 ++ (p4 ++ p5))
    ∙ append_assoc o p1 (p2 ++ (p3 ++ (p4 ++ p5)))

pub twelve_parts : (o p1 p2 p3 p4 p5 p6 p7 p8 p9 p10 p11 p12 : List ℕ) → (((((((((((o ++ p1) ++ p2) ++ p3) ++ p4) ++ p5) ++ p6) ++ p7) ++ p8) ++ p9) ++ p10) ++ p11) ++ p12 ≡ o ++ (p1 ++ (p2 ++ (p3 ++ (p4 ++ (p5 ++ (p6 ++ (p7 ++ (p8 ++ (p9 ++ (p10 ++ (p11 ++ p12)))))))))))
twelve_parts o p1 p2 p3 p4 p5 p6 p7 p8 p9 p10 p11 p12 =
    append_assoc ((((((((((o ++ p1) ++ p2) ++ p3) ++ p4) ++ p5) ++ p6) ++ p7) ++ p8) ++ p9) ++ p10) p11 p12
    ∙ append_assoc (((((((((o ++ p1) ++ p2) ++ p3) ++ p4) ++ p5) ++ p6) ++ p7) ++ p8) ++ p9) p10 (p11 ++ p12)
    ∙ append_assoc ((((((((o ++ p1) ++ p2) ++ p3) ++ p4) ++ p5) ++ p6) ++ p7) ++ p8) p9 (p10 ++ (p11 ++ p12))
    ∙ append_assoc (((((((o ++ p1) ++ p2) ++ p3) ++ p4) ++ p5) ++ p6) ++ p7) p8 (p9 ++ (p10 ++ (p11 ++ p12)))
    ∙ append_assoc ((((((o ++ p1) ++ p2) ++ p3) ++ p4) ++ p5) ++ p6) p7 (p8 ++ (p9 ++ (p10 ++ (p11 ++ p12))))
    ∙ append_assoc (((((o ++ p1) ++ p2) ++ p3) ++ p4) ++ p5) p6 (p7 ++ (p8 ++ (p9 ++ (p10 ++ (p11 ++ p12)))))
    ∙ append_assoc ((((o ++ p1) ++ p2) ++ p3) ++ p4) p5 (p6 ++ (p7 ++ (p8 ++ (p9 ++ (p10 ++ (p11 ++ p12))))))
    ∙ append_assoc (((o ++ p1) ++ p2) ++ p3) p4 (p5 ++ (p6 ++ (p7 ++ (p8 ++ (p9 ++ (p10 ++ (p11 ++ p12)))))))
    ∙ append_assoc ((o ++ p1) ++ p2) p3 (p4 ++ (p5 ++ (p6 ++ (p7 ++ (p8 ++ (p9 ++ (p10 ++ (p11 ++ p12))))))))
    ∙ append_assoc (o ++ p1) p2 (p3 ++ (p4 ++ (p5 ++ (p6 ++ (p7 ++ (p8 ++ (p9 ++ (p10 ++ (p11 ++ p12)))))))))
    ∙ append_assoc o p1 (p2 ++ (p3 ++ (p4 ++ (p5 ++ (p6 ++ (p7 ++ (p8 ++ (p9 ++ (p10 ++ (p11 ++ p12))))))))))
