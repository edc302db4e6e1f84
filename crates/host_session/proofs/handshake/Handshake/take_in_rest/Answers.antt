use Rattle.std.proofs.Common.{◌≡◌, ℕ, ◌≤◌, List, [], ◌++◌, length, take, sym, ap, ◌∙◌, arith}
use Rattle.std.proofs.lemmas.List.{append-nil, length-take-le}
use Rattle.host_session.specs.Stage.{position_at}
use Rattle.host_session.proofs.Goes.{rest-goes, rest-whole}
use Rattle.host_session.proofs.handshake.Handshake.take_in_rest.Goals as goal

pub returns-then-piece-left : goal.returns-then-piece-left
returns-then-piece-left c = record {
  taking = λ expected due. record {
    leads = record {
      said = [];
      due = sym (append-nil due);
      is = record {
        link = λ more.
            let s = c.args.self.now in
            let p : List ℕ = c.args.piece.now in
            let within : length p ≤ c.args.left = omega arith in
            ap (λ q. position_at expected q s.kept.items (p ++ more)) c.requires.position ∙ rest-goes c.args.size.width c.args.size.height c.args.left s.kept.items p more within;
      };
    };
    unfinished = omega arith;
  };
}

pub returns : goal.returns
returns c = record {
  taking = λ expected due. record {
    some = omega arith;
    ends = record {
      said = [];
      due = sym (append-nil due);
      is = record {
        link = λ more.
            let s = c.args.self.now in
            let p : List ℕ = take c.args.left c.args.piece.now in
            let whole : length p ≡ c.args.left = length-take-le c.args.left c.args.piece.now (omega arith) in
            ap (λ q. position_at expected q s.kept.items (p ++ more)) c.requires.position ∙ rest-whole c.args.size.width c.args.size.height c.args.left s.kept.items p more whole;
      };
    };
  };
}
