use Rattle.std.proofs.Common.{◌∙◌, sym, inl}
use Rattle.request_head.proofs.Plain.{never_sound, may_be_sound}
use Rattle.request_head.proofs.head.judge_beginning.Goals as goal

pub returns-then-not-is_plain_start : goal.returns-then-not-is_plain_start
returns-then-not-is_plain_start c = λ names fields. inl (never_sound c.args.head.now (sym c.is_plain_start.ensures ∙ c.if-not-is_plain_start.true))

pub returns-then-head-lt-LONGEST_HEAD : goal.returns-then-head-lt-LONGEST_HEAD
returns-then-head-lt-LONGEST_HEAD c = λ names fields. (
  c.if-head-lt-LONGEST_HEAD.true,
  record {
    begins = may_be_sound c.args.head.now (sym c.is_plain_start.ensures ∙ c.if-not-is_plain_start.false) c.requires.begins;
    is_not_whole = λ head rest reads. c.requires.is_not_whole head rest reads.0;
  },
)

pub returns-else-head-lt-LONGEST_HEAD : goal.returns-else-head-lt-LONGEST_HEAD
returns-else-head-lt-LONGEST_HEAD c = λ names fields. (
  c.if-head-lt-LONGEST_HEAD.false,
  record {
    begins = may_be_sound c.args.head.now (sym c.is_plain_start.ensures ∙ c.if-not-is_plain_start.false) c.requires.begins;
    is_not_whole = λ head rest reads. c.requires.is_not_whole head rest reads.0;
  },
)
