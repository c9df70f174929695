-- The text of a state, and its digest.
use Rattle.std.specs.Prelude.{◌≡◌, ◌≢◌, ℕ, true, List, Some, None}
use Rattle.sha2.specs.Sha256.{sha256}
use Rattle.xdr.specs.Item.{Value, Fits, fixed, spelling}
use Rattle.xdr.specs.Texts.Text.{Text, text_at}
use Rattle.server_spec.specs.FileItems.{file_item, file_value, file_digest}
use Rattle.state_spec.specs.State.{State, IsState}
use Rattle.state_spec.specs.StateItems.{state_item, state_value}

-- what a state's text says
abbrev pub Said : Type 0
Said = Value (state_item file_item)

-- what the text of a state says
abbrev pub said : State → Said
said s = state_value file_item file_value s

-- The bytes are the text of a state, and nothing more.
pub record IsStateText (s : State) (bytes : List ℕ) : Type 0 where
  -- the state is one that a node can be in
  pub state : IsState s
  -- what it says has a spelling
  pub fits : Fits (state_item file_item) (said s)
  -- the bytes are that spelling
  pub spelled : bytes ≡ spelling (state_item file_item) (said s)

-- what is spelled as a state is, whether or not there is a state that says it
abbrev pub spelled_text : Text
spelled_text = record { item = state_item file_item; test = λ _. true }

-- Garbage: the bytes aren't spelled as a state is.
abbrev pub IsGarbage : List ℕ → Type 0
IsGarbage bytes = text_at spelled_text bytes ≡ None

-- NotAState: the bytes are spelled so, and no state says what they say.
abbrev pub IsNotAState : List ℕ → Type 0
IsNotAState bytes =
    (v : Said) × (text_at spelled_text bytes ≡ Some v) × ((s : State) → IsState s → said s ≢ v)

-- the text of a state in which each file's text stands as the digest of that text
abbrev pub digest_text : State → List ℕ
digest_text s = spelling (state_item (fixed 32)) (state_value (fixed 32) file_digest s)

-- the digest of a state
unfoldable pub state_digest : State → List ℕ
state_digest s = sha256 (digest_text s)
