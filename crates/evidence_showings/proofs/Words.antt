-- Words of shown links: those that follow, and what links may skip.
-- Serves: may_skip, closes, links_after, Showing::has_words, Showing::of_words, Showing::of_segment,
-- WordedShowing::into_showing, read_parts, add_links.
use Rattle.std.proofs.Common.{◌≡◌, ℕ, ◌+◌, ◌-◌, ◌<◌, ◌≤◌, ◌^◌, Bool, true, false, List, [], ◌∷◌, ◌++◌, length}
use Rattle.std.proofs.Common.{drop, get_or, map, refl, sym, ap, ap₂, subst, ◌∙◌, arith}
use Rattle.std.specs.Prelude.{◌*◌, ◌/◌, ◌%◌, ◌==◌, ◌↔◌, nat_le}
use Rattle.std.specs.List.{AllByRecursion}
use Rattle.std.proofs.lemmas.Bool.{le-leb, leb-true, lt-ltb, eqb-true, eq-eqb, and_parts, and_from}
use Rattle.std.proofs.lemmas.List.{drop_more, length-map, map-append}
use Rattle.xdr.specs.Item.{Fits}
use Rattle.authenticator.specs.declared.member.LogVersion.{LogVersion}
use Rattle.authenticator.specs.declared.member.LogVersion.TheVariants.{One, Two}
use Rattle.authenticator.specs.declared.member.Member.{Member}
use Rattle.authenticator.specs.Numbers.{number_in, word_of}
use Rattle.authenticator.proofs.Words.{word_is}
use Rattle.evidence_spec.specs.secure_log.LogEntries.Chain.{Link, last_number}
use Rattle.evidence_spec.specs.secure_log.declared.segment.TheConstants.{MAX_ENTRIES}
use Rattle.evidence_spec.proofs.secure_log.Gaps.{closing_number, rise}
use Rattle.evidence_spec.proofs.Gaps.{length-shown, shown_after}
use Rattle.evidence_spec.specs.secure_log.LogEntries.Words.{ClosesAt, MAX_SKIPPED, MaySkip, follows}
use Rattle.evidence_spec.specs.secure_log.LogEntries.Words.{last_word, words_follow}
use Rattle.evidence_spec.specs.Showing.{ShownLink, ShowingParts, link_item, link_value}
use Rattle.evidence_spec.specs.Showing.{IsClosedShowing, links_follow}
use Rattle.evidence_spec.specs.Showing.{links_in, numbered, showing_item, showing_value}
use Rattle.evidence_showings.specs.Showings.{HasText, HasWords, numbered_link, word_after}
use Rattle.evidence_showings.specs.Worded.{WordedLinkParts, worded_link_value}

-- ---- one link more

-- some items, one more and the rest
pub then_rest : {A : Type 0} (xs : List A) (x : A) (rest : List A) → (xs ++ x ∷ []) ++ rest ≡ xs ++ x ∷ rest
then_rest [] x rest = refl
then_rest (y ∷ xs) x rest = ap (λ ys. y ∷ ys) (then_rest xs x rest)

-- the links of some and one more
pub numbered_snoc : (before : ℕ) (ls : List ShownLink) (l : ShownLink)
    → numbered before (ls ++ l ∷ []) ≡ numbered before ls
    ++ numbered_link l (last_number before (numbered before ls) + 1 + l.skipped) ∷ []
numbered_snoc before [] l = refl
numbered_snoc before (x ∷ ls) l =
    ap (λ xs. numbered_link x (before + 1 + x.skipped) ∷ xs) (numbered_snoc (before + 1 + x.skipped) ls l)

-- and the number of the last of them
pub last_snoc : (before : ℕ) (ls : List ShownLink) (l : ShownLink)
    → last_number before (numbered before (ls ++ l ∷ [])) ≡ last_number before (numbered before ls) + 1 + l.skipped
last_snoc before [] l = refl
last_snoc before (x ∷ ls) l = last_snoc (before + 1 + x.skipped) ls l

-- ---- words that follow

-- a word that follows is that of what it skips and its number
pub word_back : (before w : ℕ) → follows before w ≡ true → word_of (w / 2 ^ 32) (before + 1 + w / 2 ^ 32) ≡ w
word_back before w h =
    let both = and_parts (nat_le (w / 2 ^ 32) MAX_SKIPPED) (w % 2 ^ 32 == before + 1 + w / 2 ^ 32) h in
    let number : w % 2 ^ 32 ≡ before + 1 + w / 2 ^ 32 = eqb-true _ _ both.1 in
    word_is (w / 2 ^ 32) (before + 1 + w / 2 ^ 32) ∙ omega (arith, number)

-- ---- what links may skip

may_follow : (before s : ℕ) → s ≤ MAX_SKIPPED → before + 1 + s < 2 ^ 32
    → follows before (word_of s (before + 1 + s)) ≡ true
may_follow before s few low =
    let w = word_of s (before + 1 + s) in
    let is : w ≡ s * 2 ^ 32 + (before + 1 + s) = word_is s (before + 1 + s) in
    let skip : w / 2 ^ 32 ≡ s = omega (arith, is, low) in
    let number : w % 2 ^ 32 ≡ before + 1 + w / 2 ^ 32 = omega (arith, is, low) in
    and_from (nat_le (w / 2 ^ 32) MAX_SKIPPED) (w % 2 ^ 32 == before + 1 + w / 2 ^ 32)
    (le-leb _ _ (omega (arith, skip, few))) (eq-eqb _ _ number)

follow_may : (before s : ℕ) → follows before (word_of s (before + 1 + s)) ≡ true
    → (s ≤ MAX_SKIPPED) × (before + 1 + s < 2 ^ 32)
follow_may before s h =
    let w = word_of s (before + 1 + s) in
    let is : w ≡ s * 2 ^ 32 + (before + 1 + s) = word_is s (before + 1 + s) in
    let both = and_parts (nat_le (w / 2 ^ 32) MAX_SKIPPED) (w % 2 ^ 32 == before + 1 + w / 2 ^ 32) h in
    let few : w / 2 ^ 32 ≤ MAX_SKIPPED = leb-true _ _ both.0 in
    let number : w % 2 ^ 32 ≡ before + 1 + w / 2 ^ 32 = eqb-true _ _ both.1 in
    (omega (arith, is, few), omega (arith, is, few, number))

-- links that may be skipped to have words that follow
pub skips_follow : (before : ℕ) (ls : List ShownLink) → AllByRecursion (MaySkip Two) (numbered before ls)
    → words_follow before (map (λ x. x.0) (map (link_value Two) (numbered before ls))) ≡ true
skips_follow before [] each = refl
skips_follow before (l ∷ ls) each =
    let w = word_of l.skipped (before + 1 + l.skipped) in
    let is : w ≡ l.skipped * 2 ^ 32 + (before + 1 + l.skipped) = word_is l.skipped (before + 1 + l.skipped) in
    let skip : w / 2 ^ 32 ≡ l.skipped = omega (arith, is, each.0.1) in
    let ws = map (λ x. x.0) (map (link_value Two) (numbered (before + 1 + l.skipped) ls)) in
    and_from (follows before w) (words_follow (before + 1 + w / 2 ^ 32) ws)
    (may_follow before l.skipped each.0.0 each.0.1)
    (ap (λ n. words_follow (before + 1 + n) ws) skip ∙ skips_follow (before + 1 + l.skipped) ls each.1)

-- and the other way round
pub follow_skips : (before : ℕ) (ls : List ShownLink)
    → words_follow before (map (λ x. x.0) (map (link_value Two) (numbered before ls))) ≡ true
    → AllByRecursion (MaySkip Two) (numbered before ls)
follow_skips before [] h = tt
follow_skips before (l ∷ ls) h =
    let w = word_of l.skipped (before + 1 + l.skipped) in
    let is : w ≡ l.skipped * 2 ^ 32 + (before + 1 + l.skipped) = word_is l.skipped (before + 1 + l.skipped) in
    let ws = map (λ x. x.0) (map (link_value Two) (numbered (before + 1 + l.skipped) ls)) in
    let both = and_parts (follows before w) (words_follow (before + 1 + w / 2 ^ 32) ws) h in
    let may = follow_may before l.skipped both.0 in
    let skip : w / 2 ^ 32 ≡ l.skipped = omega (arith, is, may.1) in
    (may, follow_skips (before + 1 + l.skipped) ls (sym (ap (λ n. words_follow (before + 1 + n) ws) skip) ∙ both.1))

-- ---- texts

words_small : (before : ℕ) (ls : List Link) → AllByRecursion (MaySkip Two) ls
    → AllByRecursion (Fits (link_item One)) (map (link_value One) ls)
    → AllByRecursion (Fits (link_item Two)) (map (link_value Two) ls)
words_small before [] may fits = tt
words_small before (l ∷ ls) may fits =
    let is = word_is l.skipped l.number in
    let low : word_of l.skipped l.number < 2 ^ 64 - 1 = omega (arith, is, may.0.0, may.0.1) in
    (((omega (arith, low), lt-ltb _ _ low), fits.0), words_small before ls may.1 fits.1)

-- a showing whose links may be skipped to has a text of a log of version 2
pub words_fit : (s : ShowingParts) → HasText s → HasWords s → Fits (showing_item Two) (showing_value Two s)
words_fit s fits words =
    let ls = links_in s in
    let one : length (map (link_value One) ls) ≡ length ls = length-map ls (link_value One) in
    let two : length (map (link_value Two) ls) ≡ length ls = length-map ls (link_value Two) in
    let links = fits.1.1.1.0 in (
      fits.0,
      (
        (omega (arith, fits.1.0), lt-ltb (s.first - 1) (2 ^ 64 - 1) (omega (arith, fits.1.0))),
        (
          fits.1.1.0,
          (
            (omega (arith, one, two, links.0), omega (arith, one, two, links.1), words_small 0 ls words links.2),
            fits.1.1.1.1,
          ),
        ),
      ),
    )

plain_fit : (ls : List Link) → AllByRecursion (Fits (link_item Two)) (map (link_value Two) ls)
    → AllByRecursion (Fits (link_item One)) (map (link_value One) ls)
plain_fit [] fits = tt
plain_fit (l ∷ ls) fits = (fits.0.1, plain_fit ls fits.1)

-- and one that has such a text, and begins at a number of 64 bits, has one of a log of version 1
pub text_of_words : (s : ShowingParts) → s.first < 2 ^ 64 → Fits (showing_item Two) (showing_value Two s)
    → HasText s
text_of_words s low fits =
    let ls = links_in s in
    let one : length (map (link_value One) ls) ≡ length ls = length-map ls (link_value One) in
    let two : length (map (link_value Two) ls) ≡ length ls = length-map ls (link_value Two) in
    let links = fits.1.1.1.0 in (
      fits.0,
      (
        low,
        (
          fits.1.1.0,
          (
            (omega (arith, one, two, links.0), omega (arith, one, two, links.1), plain_fit ls links.2),
            fits.1.1.1.1,
          ),
        ),
      ),
    )

-- as one with a text of a log of its version has, which begins so
pub plain_text : (v : LogVersion) (s : ShowingParts) → s.first < 2 ^ 64 → Fits (showing_item v) (showing_value v s)
    → HasText s
plain_text One s low fits = fits
plain_text Two s low fits = text_of_words s low fits

-- the words of a closed showing follow
pub closed_follow : (v : LogVersion) (ms : List Member) (s : ShowingParts) → IsClosedShowing v ms s
    → links_follow v (showing_value v s) ≡ true
closed_follow One ms s closed = refl
closed_follow Two ms s closed = skips_follow (s.first - 1) s.links closed.skips

-- it has few links
pub links_few : (s : ShowingParts) → HasText s → length s.links ≤ MAX_ENTRIES
links_few s fits =
    omega (
      arith,
      length-map (links_in s) (link_value One),
      length-shown (s.first - 1) s.links,
      fits.1.1.1.0.1,
    )

-- a text of a log of version 1 says nothing of numbers
pub plain_values : (n : ℕ) (ls : List ShownLink)
    → map (λ l. link_value One (numbered_link l 0)) ls ≡ map (link_value One) (numbered n ls)
plain_values n [] = refl
plain_values n (l ∷ ls) = ap (λ xs. (l.kind, l.content) ∷ xs) (plain_values (n + 1 + l.skipped) ls)

-- ---- what closes them

-- links that skip nothing may be skipped to in a log of version 1, and no others
pub plain_skips : (n : ℕ) (ls : List ShownLink)
    → AllByRecursion (λ l. l.skipped ≡ 0) ls ↔ AllByRecursion (MaySkip One) (numbered n ls)
plain_skips n [] = (λ h. h, λ h. h)
plain_skips n (l ∷ ls) =
    let rest = plain_skips (n + 1 + l.skipped) ls in
    (λ h. (h.0, rest.0 h.1), λ h. (h.0, rest.1 h.1))

-- the word after some links is the last one's
pub word_is_last : (w : ℕ) (l : Link) (ls : List Link) → word_after w (l ∷ ls) ≡ last_word l ls
word_is_last w l [] = refl
word_is_last w l (m ∷ ls) = word_is_last (word_of l.skipped l.number) m ls

last_plain : (n : ℕ) (l : ShownLink) (ls : List ShownLink)
    → AllByRecursion (MaySkip One) (numbered_link l n ∷ numbered n ls)
    → last_word (numbered_link l n) (numbered n ls) ≡ n + length ls
last_plain n l [] may = omega (arith, may.0, word_is l.skipped n)
last_plain n l (m ∷ ls) may =
    omega (arith, may.1.0, last_plain (n + 1 + m.skipped) m ls may.1)

-- in a log of version 1 they are closed by the number that is as many past the one before
pub plain_closes : (before : ℕ) (ls : List ShownLink) (w : ℕ) → AllByRecursion (MaySkip One) (numbered before ls)
    → (w ≡ before + length ls) ↔ ClosesAt One before (numbered before ls) w
plain_closes before [] w may = (λ h. omega (arith, h), λ h. omega (arith, h))
plain_closes before (l ∷ ls) w may =
    let last = last_plain (before + 1 + l.skipped) l ls may in
    (λ h. omega (arith, h, last, may.0), λ h. omega (arith, h, last, may.0))

-- in a log of version 2 by the last one's word
pub worded_closes : (before : ℕ) (ls : List ShownLink) (w : ℕ) → 0 < length ls
    → (w ≡ word_after 0 (numbered before ls)) ↔ ClosesAt Two before (numbered before ls) w
worded_closes before [] w some = absurd (omega (arith, some))
worded_closes before (l ∷ ls) w some =
    let last = word_is_last 0 (numbered_link l (before + 1 + l.skipped)) (numbered (before + 1 + l.skipped) ls) in
    (λ h. h ∙ last, λ h. h ∙ sym last)

-- what closes links is of a number of 64 bits
pub closed_low : (v : LogVersion) (before : ℕ) (ls : List ShownLink) (w : ℕ) → w < 2 ^ 64
    → AllByRecursion (MaySkip v) (numbered before ls) → ClosesAt v before (numbered before ls) w
    → last_number before (numbered before ls) < 2 ^ 64
closed_low v before ls w low may closes =
    omega (arith, closing_number v before (numbered before ls) w may closes, number_low v w low)
  where
    number_low : (v : LogVersion) (w : ℕ) → w < 2 ^ 64 → number_in v w < 2 ^ 64
    number_low One w h = h
    number_low Two w h = omega arith

-- ---- from some place on

-- what is left of a list is the item at the place, and what is left after it
pub head_is : {A : Type 0} (ls : List A) (i : ℕ) (x : A) → i < length ls → x ≡ get_or ls i x
    → drop i ls ≡ x ∷ drop (i + 1) ls
head_is ls i x there e = drop_more ls i x there ∙ ap (λ y. y ∷ drop (i + 1) ls) (sym e)

-- numbers stay within the last
pub low_here : (at : ℕ) (here rest : List ShownLink) (x : ShownLink) → here ≡ x ∷ rest
    → last_number at (numbered at here) < 2 ^ 64 → at + 1 + x.skipped < 2 ^ 64
low_here at here rest x is low =
    let next = at + 1 + x.skipped in
    let last : last_number next (numbered next rest) < 2 ^ 64 =
    subst (λ ks. last_number at (numbered at ks) < 2 ^ 64) is low in
    omega (arith, last, rise next (numbered next rest) (shown_after next rest))

-- one that decides is the other
pub same_bool : (b c : Bool) → (b ≡ true → c ≡ true) → (c ≡ true → b ≡ true) → b ≡ c
same_bool true c f g = sym (f refl)
same_bool false false f g = refl
same_bool false true f g = g refl

-- ---- reading

link_back : (number : ℕ) (x : WordedLinkParts) → follows number x.entry_word ≡ true
    → link_value Two (numbered_link (record { skipped = x.entry_word / 2 ^ 32; kind = x.kind; content = x.content })
    (number + 1 + x.entry_word / 2 ^ 32)) ≡ worded_link_value x
link_back number x h = ap (λ w. (w, (x.kind, x.content))) (word_back number x.entry_word h)

-- the values of shown links, with one more whose word follows
pub one_more : (before : ℕ) (items : List ShownLink) (number : ℕ) (done : List WordedLinkParts)
    (x : WordedLinkParts)
    → last_number before (numbered before items) ≡ number → follows number x.entry_word ≡ true
    → map (link_value Two) (numbered before items) ≡ map worded_link_value done
    → let y : ShownLink = record { skipped = x.entry_word / 2 ^ 32; kind = x.kind; content = x.content } in
    map (link_value Two) (numbered before (items ++ y ∷ [])) ≡ map worded_link_value (done ++ x ∷ [])
one_more before items number done x last h same =
    let y : ShownLink = record { skipped = x.entry_word / 2 ^ 32; kind = x.kind; content = x.content } in
    let next = last_number before (numbered before items) + 1 + y.skipped in
    let value : link_value Two (numbered_link y next) ≡ worded_link_value x =
    ap (λ n. link_value Two (numbered_link y (n + 1 + y.skipped))) last ∙ link_back number x h in
    ap (map (link_value Two)) (numbered_snoc before items y)
    ∙ map-append (link_value Two) (numbered before items) (numbered_link y next ∷ [])
    ∙ ap₂ (λ vs v. vs ++ v ∷ []) same value
    ∙ sym (map-append worded_link_value done (x ∷ []))
