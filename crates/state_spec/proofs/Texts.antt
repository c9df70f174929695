-- Bytes that are spelled as a state is are the text of one exactly where the rules hold.
-- Serves: a_text_has_one_state, rules_tell_texts; read_state (checkpoint).
use Rattle.std.proofs.Common.{◌≡◌, ℕ, List, [], Some, sym, ap, subst, ◌∙◌}
use Rattle.std.proofs.lemmas.List.{append-nil}
use Rattle.xdr.specs.Item.{Fits, IsBytes, spelling}
use Rattle.xdr.specs.Reading.{read_at}
use Rattle.xdr.specs.Texts.Text.{text_at, whole}
use Rattle.xdr.proofs.Exact.{again}
use Rattle.xdr.proofs.OfTexts.WholeTexts.{is_text}
use Rattle.server_spec.specs.FileItems.{file_item}
use Rattle.state_spec.specs.State.{State}
use Rattle.state_spec.specs.StateItems.{state_item}
use Rattle.state_spec.specs.StateText.{Said, said, spelled_text, IsStateText, IsNotAState}
use Rattle.state_spec.specs.StateValues.{state_from}
use Rattle.state_spec.specs.Rules.{KeepsRules}
use Rattle.state_spec.proofs.Forth.{forth}
use Rattle.state_spec.proofs.Ruled.{rules_of_state, state_of_rules}

-- the text of a state reads as what the state says
pub read_again : (s : State) (bytes : List ℕ) → IsStateText s bytes
    → text_at spelled_text bytes ≡ Some (said s)
unfolding text_at
read_again s bytes t =
    ap (λ b. whole spelled_text.test (read_at spelled_text.item b))
    (t.spelled ∙ sym (append-nil (spelling (state_item file_item) (said s))))
    ∙ ap (whole spelled_text.test) (again (state_item file_item) (said s) [] t.fits)

module _ (v : Said) (bytes : List ℕ) (bound : IsBytes bytes)
    (read : text_at spelled_text bytes ≡ Some v) where
  -- what was read fits
  pub fits_read : Fits (state_item file_item) v
  fits_read = ((is_text spelled_text v bytes bound).0 read).0

  -- bytes whose value keeps the rules are the text of its state
  pub text_of_rules : KeepsRules v → IsStateText (state_from v) bytes
  text_of_rules rules =
      let same = sym (forth v fits_read rules.lists) in
      record {
        state = state_of_rules v fits_read rules;
        fits = subst (Fits (state_item file_item)) same fits_read;
        spelled = ((is_text spelled_text v bytes bound).0 read).2 ∙ ap (spelling (state_item file_item)) same;
      }

  -- and those whose value doesn't keep them are NotAState
  pub no_state : (KeepsRules v → ⊥) → IsNotAState bytes
  no_state breaks = (v, read, λ s is e. breaks (rules_of_state v s is e))
