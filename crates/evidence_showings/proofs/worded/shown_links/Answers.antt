use Rattle.std.proofs.Common.{◌≡◌, ◌+◌, ◌++◌, ◌<◌, ◌∙◌, [], ◌∷◌, ap, drop, length, map, rules, subst, sym}
use Rattle.std.proofs.Common.{false, take, true}
use Rattle.std.specs.Prelude.{◌&&◌, ◌/◌, ◌^◌}
use Rattle.std.proofs.lemmas.List.{drop_all, take_all, take_more}
use Rattle.authenticator.specs.declared.member.LogVersion.TheVariants.{Two}
use Rattle.evidence_spec.specs.secure_log.LogEntries.Chain.{last_number}
use Rattle.evidence_spec.specs.secure_log.LogEntries.Words.{follows, words_follow}
use Rattle.evidence_spec.specs.Showing.{ShownLink, link_value, numbered}
use Rattle.evidence_showings.specs.Worded.{WordedLinkParts, worded_link_value, words_in}
use Rattle.evidence_showings.proofs.Words.{head_is, last_snoc, one_more}
use Rattle.evidence_showings.proofs.worded.shown_links.Goals as goal

-- one link more, whose word follows
pub loop-place-preserved : goal.loop-place-preserved
loop-place-preserved c =
    let there : c.loop-place.place < length c.args.links.now = search rules in
    let x = c.index-links-place.result in
    let w = x.entry_word in
    let here = head_is c.args.links.now c.loop-place.place x there c.index-links-place.is in
    let word : c.link.inside.word ≡ w = ap (λ (l : WordedLinkParts). l.entry_word) c.link.view_is in
    let told = subst (λ k. (follows c.loop-place.number k ≡ true)
    × (c.in-Some.next ≡ c.loop-place.number + 1 + k / 2 ^ 32)) word c.in-Some.ensures.some in
    let rest = drop (c.loop-place.place + 1) c.args.links.now in
    let y : ShownLink = record { skipped = w / 2 ^ 32; kind = x.kind; content = x.content } in
    let items : c.push.new.self.items ≡ c.loop-place.shown.items ++ y ∷ [] =
    c.in_ok-push.ensures.items ∙ ap (λ z. c.loop-place.shown.items ++ z ∷ []) c.shown.ensures in
    let i = c.loop-place.invariant in
    record {
      words = i.words ∙ ap (λ ks. words_follow c.loop-place.number (words_in ks)) here
          ∙ ap (λ b. b && words_follow (c.loop-place.number + 1 + w / 2 ^ 32) (words_in rest)) told.0
          ∙ ap (λ n. words_follow n (words_in rest)) (sym told.1);
      last = ap (λ ls. last_number c.args.before (numbered c.args.before ls)) items
          ∙ last_snoc c.args.before c.loop-place.shown.items y
          ∙ ap (λ n. n + 1 + w / 2 ^ 32) i.last ∙ sym told.1;
      same = ap (λ ls. map (link_value Two) (numbered c.args.before ls)) items
          ∙ one_more c.args.before c.loop-place.shown.items c.loop-place.number
          (take c.loop-place.place c.args.links.now) x i.last told.0 i.same
          ∙ ap (map worded_link_value) (sym (take_more c.args.links.now c.loop-place.place x there
          ∙ ap (λ z. take c.loop-place.place c.args.links.now ++ z ∷ []) (sym c.index-links-place.is)));
    }

-- no link is shown yet
pub loop-place-init : goal.loop-place-init
loop-place-init c =
    let none = c.in_ok-shown.ensures.items in
    let first = sym c.get-number.ensures.value in
    record {
      words = ap (λ n. words_follow n (words_in c.args.links.now)) first;
      last = ap (λ ls. last_number c.args.before (numbered c.args.before ls)) none ∙ first;
      same = ap (λ ls. map (link_value Two) (numbered c.args.before ls)) none;
    }

-- the next word doesn't follow, so not all do
pub returns-in_default : goal.returns-in_default
returns-in_default c =
    let there : c.loop-place.place < length c.args.links.now = search rules in
    let x = c.index-links-place.result in
    let w = x.entry_word in
    let here = head_is c.args.links.now c.loop-place.place x there c.index-links-place.is in
    let word : c.link.inside.word ≡ w = ap (λ (l : WordedLinkParts). l.entry_word) c.link.view_is in
    let told = subst (λ k. follows c.loop-place.number k ≡ false) word c.in_default.ensures.none in
    let rest = drop (c.loop-place.place + 1) c.args.links.now in
    record {
      follow = tt;
      some = tt;
      none = c.loop-place.invariant.words ∙ ap (λ ks. words_follow c.loop-place.number (words_in ks)) here
          ∙ ap (λ b. b && words_follow (c.loop-place.number + 1 + w / 2 ^ 32) (words_in rest)) told;
    }

-- no link is left
pub returns : goal.returns
returns c =
    let end = c.loop-place-test.false in
    let i = c.loop-place.invariant in
    record {
      follow = i.same ∙ ap (map worded_link_value) (take_all c.loop-place.place c.args.links.now end);
      some = i.words ∙ ap (λ ks. words_follow c.loop-place.number (words_in ks))
          (drop_all c.loop-place.place c.args.links.now end);
      none = tt;
    }
