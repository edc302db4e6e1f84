use Rattle.std.proofs.Common.{◌≡◌, ◌≤◌, ◌-◌, length, refl, ap, arith}
use Rattle.std.specs.Prelude.{min}
use Rattle.fbs_export.proofs.Naming.{name_waits, name_ends}
use Rattle.fbs_export.proofs.opening.Name.take.Goals as goal

pub returns-then-self-gt0-clause-goes : goal.returns-then-self-gt0-clause-goes
returns-then-self-gt0-clause-goes c = λ s stands.
    let old = c.args.self.now in
    let piece = c.args.piece.now in
    let more = c.if-self-gt0.true in
    let all : c.min-came.result ≡ length piece = omega (arith, c.min-came.ensures, more) in
    let fits : length piece ≤ old.left = omega (arith, c.min-came.ensures, more) in
    let kept : c.min-kept.result ≡ min (length piece) (1024 - length old.kept.items) = omega (arith, c.min-kept.ensures, c.saturating_sub.ensures, c.len.ensures, all) in (
      name_waits old (record { announced = old.announced; left = old.left - c.min-came.result; kept = c.extend_from_slice.new.self }) s piece c.min-kept.result refl
          c.in_ok-extend_from_slice.ensures.items (ap (λ z. old.left - z) all) fits kept stands,
      more,
    )

pub returns-clause-goes : goal.returns-clause-goes
returns-clause-goes c = λ s stands.
    let old = c.args.self.now in
    let piece = c.args.piece.now in
    let none = c.if-self-gt0.false in
    let all : c.min-came.result ≡ old.left = omega (arith, c.min-came.ensures, none) in
    let fits : c.min-came.result ≤ length piece = omega (arith, c.min-came.ensures) in
    let kept : c.min-kept.result ≡ min c.min-came.result (1024 - length old.kept.items) = omega (arith, c.min-kept.ensures, c.saturating_sub.ensures, c.len.ensures) in
    name_ends old (record { announced = old.announced; left = old.left - c.min-came.result; kept = c.extend_from_slice.new.self }) s piece c.min-came.result c.min-kept.result
    c.in_ok-extend_from_slice.ensures.items all fits kept stands
