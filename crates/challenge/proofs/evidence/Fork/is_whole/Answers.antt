use Rattle.std.proofs.Common.{◌&&◌, sym, ap, ◌∙◌, option_map}
use Rattle.authenticator.specs.declared.member.LogVersion.TheVariants.{Two}
use Rattle.evidence_showings.specs.evidence_spec.Showing.{showing_value}
use Rattle.evidence_showings.specs.evidence_spec.Evidence.{second_follows}
use Rattle.challenge.specs.Charges.{fork_in}
use Rattle.challenge.proofs.Forks.{whole_one, whole_two}
use Rattle.challenge.proofs.evidence.Fork.is_whole.Goals as goal

pub returns-in-One : goal.returns-in-One
returns-in-One c = whole_one c.args.self.now.log_version (fork_in c.args.self.now) c.in-One.is

pub returns-then-has_words : goal.returns-then-has_words
returns-then-has_words c =
    c.second_has_words.ensures.follow
    ∙ sym (whole_two c.args.self.now.log_version (fork_in c.args.self.now) c.in-Two.is
    ∙ ap (λ b. b && second_follows (option_map (showing_value Two) c.args.self.now.b))
    (sym c.has_words.ensures.follow ∙ c.if-has_words.true))

pub returns-else-has_words : goal.returns-else-has_words
returns-else-has_words c =
    c.if-has_words.false
    ∙ sym (whole_two c.args.self.now.log_version (fork_in c.args.self.now) c.in-Two.is
    ∙ ap (λ b. b && second_follows (option_map (showing_value Two) c.args.self.now.b))
    (sym c.has_words.ensures.follow ∙ c.if-has_words.false))
