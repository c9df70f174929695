use Rattle.std.proofs.Common.{◌≡◌, ◌<◌, arith, length, ap, ◌∙◌, option_map}
use Rattle.std.specs.List.{position_or_len, before_first, after_first}
use Rattle.host_keys.specs.Lines.{words_of, words_left, left_in}
use Rattle.host_keys.proofs.Lines.{is_space, more_words, one_word}
use Rattle.host_keys.proofs.words.Words.next.Goals as goal

pub returns-in-Some : goal.returns-in-Some
returns-in-Some c =
    let at : (c.in-Some.word.now ≡ before_first is_space c.in_ok-rest.rest.now)
    × (c.in-Some.more.now ≡ after_first is_space c.in_ok-rest.rest.now)
    × (position_or_len is_space c.in_ok-rest.rest.now < length c.in_ok-rest.rest.now) =
    c.in-Some.ensures.byte (omega arith) (λ w o f. f) in
    let first : left_in c.args.self.now
    ≡ words_of c.in_ok-rest.rest.now = ap (λ o. words_left (option_map
    (λ s. s.now) o)) c.in_ok-rest.was in
    let split = more_words c.in_ok-rest.rest.now at.2 in cc

pub returns-in-None : goal.returns-in-None
returns-in-None c =
    let at : position_or_len is_space c.in_ok-rest.rest.now ≡ length c.in_ok-rest.rest.now =
    c.in-None.ensures.byte (omega arith) (λ w o f. f) in
    let first : left_in c.args.self.now
    ≡ words_of c.in_ok-rest.rest.now = ap (λ o. words_left (option_map
    (λ s. s.now) o)) c.in_ok-rest.was in
    first ∙ one_word c.in_ok-rest.rest.now at
