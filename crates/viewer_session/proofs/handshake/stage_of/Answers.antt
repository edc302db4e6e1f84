use Rattle.std.proofs.Common.{◌≡◌, true, false, nat_eq, take, arith, rules}
use Rattle.std.specs.Prelude.{slice_index}
use Rattle.std.specs.Str.{bytes_eq}
use Rattle.viewer_session.specs.Handshake.{version}
use Rattle.viewer_session.proofs.Handshakes.{few, other_version, no_choice, other_type, no_init, all_heard}
use Rattle.viewer_session.proofs.handshake.stage_of.Goals as goal

pub returns-then-heard-lt12-clause-talk : goal.returns-then-heard-lt12-clause-talk
returns-then-heard-lt12-clause-talk c = λ width height name. few width height name c.args.heard.now (omega arith)

pub returns-then-ne-clause-talk : goal.returns-then-ne-clause-talk
returns-then-ne-clause-talk c = λ width height name.
    let e : bytes_eq (take 12 c.args.heard.now) version ≡ false = search rules in
    other_version width height name c.args.heard.now (omega arith) e

pub returns-then-heard-lt13-clause-talk : goal.returns-then-heard-lt13-clause-talk
returns-then-heard-lt13-clause-talk c = λ width height name.
    let e : bytes_eq (take 12 c.args.heard.now) version ≡ true = search rules in
    no_choice width height name c.args.heard.now (omega arith) e

pub returns-then-heard-ne1-clause-talk : goal.returns-then-heard-ne1-clause-talk
returns-then-heard-ne1-clause-talk c = λ width height name.
    let e : bytes_eq (take 12 c.args.heard.now) version ≡ true = search rules in
    let other : nat_eq (slice_index c.args.heard.now 12) 1 ≡ false = search rules in
    other_type width height name c.args.heard.now (omega arith) e other

pub returns-then-heard-lt-LENGTH-clause-talk : goal.returns-then-heard-lt-LENGTH-clause-talk
returns-then-heard-lt-LENGTH-clause-talk c = λ width height name.
    let e : bytes_eq (take 12 c.args.heard.now) version ≡ true = search rules in
    let one : nat_eq (slice_index c.args.heard.now 12) 1 ≡ true = search rules in
    no_init width height name c.args.heard.now (omega arith) e one

pub returns-clause-talk : goal.returns-clause-talk
returns-clause-talk c = λ width height name.
    let e : bytes_eq (take 12 c.args.heard.now) version ≡ true = search rules in
    let one : nat_eq (slice_index c.args.heard.now 12) 1 ≡ true = search rules in
    all_heard width height name c.args.heard.now (omega arith) e one
