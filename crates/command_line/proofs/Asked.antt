-- What the matches of the commands ask for. Serves: parse, request_by_rules, flag_of.
use Rattle.std.proofs.Common.{◌≡◌, ◌∙◌, ◌++◌, Bool, true, false, List, [], ◌∷◌, Option, Some, None, Result, Ok, Err}
use Rattle.std.proofs.Common.{Bor, IfErr, ◌⊎◌, inl, inr, codes, option_map, refl, sym, ap, ap₂, unwrap_or}
use Rattle.std.proofs.Common.{subst}
use Rattle.std.specs.Prelude.{◌||◌, IsErrAnd, is_some}
use Rattle.std.specs.List.{AllByRecursion, list_any}
use Rattle.std.specs.Option.{option_map_or}
use Rattle.std.specs.Str.{bytes_eq}
use Rattle.std.proofs.lemmas.Slice.Eq.{bytes_eq-Decides}
use Rattle.clap.specs.Words.{App, HasMatchesOf, is_simple, is_simple_and_free, kind_of, subcommand_name_of}
use Rattle.clap.specs.Words.{subcommand_rows_of}
use Rattle.clap.specs.Kinds.{FailsBy, HasKind, IsAmong, Kinds}
use Rattle.clap.specs.Walk.{Row, Text, first_of, rows_after}
use Rattle.clap.specs.Simple.{built, subcommand_of}
use Rattle.clap.specs.Faults.{fault_of}
use Rattle.clap.specs.declared.error.Error.{Error}
use Rattle.clap.specs.declared.error.kind.ErrorKind.TheVariants.{OutOfMemory}
use Rattle.clap.specs.declared.parser.matches.ArgMatches.{ArgMatches}
use Rattle.clap.proofs.OnLiterals.{clap_on_literals}
use Rattle.command_line.specs.CommandLine.{Base, Check, CheckAsked, Roster, Rpc, Run, RunAsked, asked_in, asked_of}
use Rattle.command_line.specs.CommandLine.{asked_without, check_of, commands, run_of}
use Rattle.command_line.specs.CommandLine.{is_flag_text, is_set, is_told}
use Rattle.command_line.specs.Hosts.{hosts_names}
use Rattle.command_line.specs.Keys.{keys_names}
use Rattle.command_line.specs.declared.request.Request.{Request}
use Rattle.command_line.proofs.Taken.{entered_is, flag_is, is_plain_app, name_is_one, value_is}

-- clap's rules, and the lemmas on them, hold of these commands
pub are_simple : (is_simple commands ≡ true) × (is_simple_and_free commands ≡ true)
unfolding clap_on_literals
are_simple = (refl, refl)

-- they are plain: a subcommand must be named, and the arguments of each but `help` are given once at most
pub are_plain : is_plain_app (built commands) ≡ true
are_plain = refl

-- what the parser's clauses say of these commands
pub taken : (app : App) (words : List Text) (m : ArgMatches) → app ≡ commands → HasMatchesOf app words m
    → (is_simple_and_free app ≡ true → fault_of app words ≡ [])
    → (fault_of commands words ≡ []) × (subcommand_rows_of m ≡ subcommand_of commands words)
taken app words m is matches kinds = (
  ap (λ (a : App). fault_of a words) (sym is) ∙ kinds (ap is_simple_and_free is ∙ are_simple.1),
  (matches (ap is_simple is ∙ are_simple.0)).1 ∙ ap (λ (a : App). subcommand_of a words) is,
)

-- what they say of an error is said of these commands
fails : (app : App) (words : List Text) (e : Error) → app ≡ commands
    → (is_simple_and_free app ≡ true → HasKind (fault_of app words) e) → HasKind (fault_of commands words) e
fails app words e is kinds = subst (λ (a : App). HasKind (fault_of a words) e) is
    (kinds (ap is_simple_and_free is ∙ are_simple.1))

-- and of a result that passes it on
pub passes_on : {A : Type 0} (app : App) (words : List Text) (e : Error) (r : Result A Error) → app ≡ commands
    → (is_simple_and_free app ≡ true → HasKind (fault_of app words) e)
    → IsErrAnd r (λ x. x ≡ e) → FailsBy (fault_of commands words) r
passes_on app words e (Ok x) is kinds passed = absurd passed
passes_on app words e (Err x) is kinds passed =
    subst (HasKind (fault_of commands words)) (sym passed) (fails app words e is kinds)

-- the subcommand's name is that of its matches
pub name_is : (m : ArgMatches) (found : Option (Text × List Row)) → subcommand_rows_of m ≡ found
    → subcommand_name_of m ≡ option_map (λ p. p.0) found
name_is m found e = sym (map_twice _ _ _) ∙ ap (option_map (λ (p : Text × List Row). p.0)) e
  where
    map_twice : {A B C : Type 0} (f : A → B) (g : B → C) (o : Option A)
        → option_map g (option_map f o) ≡ option_map (λ x. g (f x)) o
    map_twice f g None = refl
    map_twice f g (Some x) = refl

-- the subcommand by its name and its matches
pub found_is : (m : ArgMatches) (found : Option (Text × List Row)) (name : Text) (rows : List Row)
    → subcommand_rows_of m ≡ found → subcommand_name_of m ≡ Some name
    → option_map (λ p. p.1) (subcommand_rows_of m) ≡ Some rows → found ≡ Some (name, rows)
found_is m found name rows is named has =
    both_are found (sym (name_is m found is) ∙ named) (ap (option_map (λ (p : Text × List Row). p.1)) (sym is)
    ∙ has)
  where
    both_are : (o : Option (Text × List Row)) → option_map (λ p. p.0) o ≡ Some name
        → option_map (λ p. p.1) o ≡ Some rows → o ≡ Some (name, rows)
    both_are None e f = cc
    both_are (Some p) e f =
        ap (λ (o : Option Text). Some (unwrap_or o p.0, p.1)) e
        ∙ ap (λ (o : Option (List Row)). Some (name, unwrap_or o p.1)) f

-- whether a flag is set, as it is answered
pub flag_is_answered : (text : Option Text) (answer : Bool) → option_map_or is_flag_text text true ≡ true
    → (text ≡ None → answer ≡ false) → (text ≡ Some (codes "true") → answer ≡ true)
    → (text ≡ Some (codes "false") → answer ≡ false)
    → answer ≡ option_map_or (bytes_eq (codes "true")) text false
flag_is_answered None answer told none is_true is_false = none refl
flag_is_answered (Some t) answer told none is_true is_false =
    by (bytes_eq (codes "true") t) (bytes_eq (codes "false") t) refl refl told
  where
    by : (a b : Bool) → bytes_eq (codes "true") t ≡ a → bytes_eq (codes "false") t ≡ b → (a || b) ≡ true
        → answer ≡ a
    by true b e f told = is_true (ap (λ x. Some x) (sym ((bytes_eq-Decides (codes "true") t).0 e)))
    by false true e f told = is_false (ap (λ x. Some x) (sym ((bytes_eq-Decides (codes "false") t).0 f)))
    by false false e f told = cc

-- the text of an argument, as it is answered
pub text_is_answered : (o : Option (Bor Text)) (other : Bor Text) {text : Option Text} → other.now ≡ []
    → option_map (λ s. s.now) o ≡ text → (unwrap_or o other).now ≡ unwrap_or text []
text_is_answered None other empty is = empty ∙ ap (λ (t : Option Text). unwrap_or t []) is
text_is_answered (Some s) other empty is = ap (λ (t : Option Text). unwrap_or t []) is

-- where they are refused, memory was, or they ask for nothing
pub is_none : (words : List Text) (r : Result Request Error) → FailsBy (fault_of commands words) r
    → IfErr r (λ e. (kind_of e ≡ OutOfMemory) ⊎ (asked_in words ≡ None))
is_none words (Ok x) none = tt
is_none words (Err e) (inl memory) = inl memory
is_none words (Err e) (inr kind) = inr (by (fault_of commands words) kind)
  where
    by : (kinds : Kinds) → IsAmong (kind_of e) kinds
        → asked_without kinds (subcommand_of commands words) ≡ None
    by [] among = absurd among
    by (k ∷ ks) among = refl

-- ---- each command

-- where no fault is found, the words ask for what the subcommand's matches say
pub asked_is : (words : List Text) (name : Text) (rows : List Row) → fault_of commands words ≡ []
    → subcommand_of commands words ≡ Some (name, rows)
    → asked_in words ≡ asked_of (name, rows)
asked_is words name rows none is = ap₂ asked_without none is

some_of : {A : Type 0} (g : Text → A) (o : Option Text) → is_some o ≡ true
    → option_map g o ≡ Some (g (unwrap_or o []))
some_of g None e = cc
some_of g (Some t) e = refl

-- the words are those that the matches of `check` hold
pub record IsCheckAsked (rows : List Row) (a : CheckAsked) : Type 0 where
  -- the file
  pub file : a.file ≡ unwrap_or (first_of (codes "file") rows) []
  -- whether what it shows is asked for, where the matches tell it
  pub explain : is_told (codes "explain") rows ≡ true → a.explain ≡ is_set (codes "explain") rows
  -- whether all entries are, where the matches tell it
  pub entries : is_told (codes "entries") rows ≡ true → a.entries ≡ is_set (codes "entries") rows
  -- the number of the entry before which the state is shown, if one is given
  pub state : a.state ≡ first_of (codes "state") rows
  -- whether JSON is asked for, where the matches tell it
  pub json : is_told (codes "json") rows ≡ true → a.json ≡ is_set (codes "json") rows
  -- the file with the roster that is trusted, if one is given
  pub roster : a.roster ≡ first_of (codes "roster") rows

-- `check` asks for what its matches hold
pub check_is : (words : List Text) (rows : List Row) (a : CheckAsked) → fault_of commands words ≡ []
    → subcommand_of commands words ≡ Some (codes "check", rows)
    → IsCheckAsked rows a → asked_in words ≡ Some (Check a)
check_is words rows a none is asks =
    let explain = asks.explain (flag_is commands words are_plain none (codes "check")
    (codes "explain") rows refl is) in
    let entries = asks.entries (flag_is commands words are_plain none (codes "check")
    (codes "entries") rows refl is) in
    let json =
    asks.json (flag_is commands words are_plain none (codes "check") (codes "json") rows refl is) in
    asked_is words (codes "check") rows none is
    ∙ some_of _ _ (value_is commands words are_plain none (codes "check") (codes "file") rows refl is)
    ∙ ap (λ (x : CheckAsked). Some (Check x)) (same explain entries json)
  where
    same : a.explain ≡ is_set (codes "explain") rows → a.entries ≡ is_set (codes "entries") rows
        → a.json ≡ is_set (codes "json") rows
        → check_of rows (unwrap_or (first_of (codes "file") rows) []) ≡ a
    same explain entries json = rw (
      sym asks.file,
      sym explain,
      sym entries,
      sym asks.state,
      sym json,
      sym asks.roster,
    ) refl

-- `roster` asks for the file that its matches hold
pub roster_is : (words : List Text) (rows : List Row) (file : Text) → fault_of commands words ≡ []
    → subcommand_of commands words ≡ Some (codes "roster", rows)
    → file ≡ unwrap_or (first_of (codes "file") rows) [] → asked_in words ≡ Some (Roster file)
roster_is words rows file none is file_is =
    asked_is words (codes "roster") rows none is
    ∙ some_of _ _ (value_is commands words are_plain none (codes "roster") (codes "file") rows refl is)
    ∙ ap (λ (f : Text). Some (Roster f)) (sym file_is)

-- `base` asks for the file that its matches hold
pub base_is : (words : List Text) (rows : List Row) (file : Text) → fault_of commands words ≡ []
    → subcommand_of commands words ≡ Some (codes "base", rows)
    → file ≡ unwrap_or (first_of (codes "file") rows) [] → asked_in words ≡ Some (Base file)
base_is words rows file none is file_is =
    asked_is words (codes "base") rows none is
    ∙ some_of _ _ (value_is commands words are_plain none (codes "base") (codes "file") rows refl is)
    ∙ ap (λ (f : Text). Some (Base f)) (sym file_is)

-- the words are those that the matches of `run` hold
pub record IsRunAsked (rows : List Row) (a : RunAsked) : Type 0 where
  -- the file
  pub file : a.file ≡ unwrap_or (first_of (codes "file") rows) []
  -- the file that the roster's text goes to, if one is named
  pub roster_out : a.roster_out ≡ first_of (codes "roster-out") rows
  -- what the names of files with bases begin with, if it is given
  pub base_out : a.base_out ≡ first_of (codes "base-out") rows
  -- the file with the base at which the witness begins, if one is named
  pub base : a.base ≡ first_of (codes "base") rows

-- `run` asks for what its matches hold
pub run_is : (words : List Text) (rows : List Row) (a : RunAsked) → fault_of commands words ≡ []
    → subcommand_of commands words ≡ Some (codes "run", rows) → IsRunAsked rows a
    → asked_in words ≡ Some (Run a)
run_is words rows a none is asks =
    asked_is words (codes "run") rows none is
    ∙ some_of _ _ (value_is commands words are_plain none (codes "run") (codes "file") rows refl is)
    ∙ ap (λ (x : RunAsked). Some (Run x)) same
  where
    same : run_of rows (unwrap_or (first_of (codes "file") rows) []) ≡ a
    same = rw (sym asks.file, sym asks.roster_out, sym asks.base_out, sym asks.base) refl

-- the subcommands that have words of their own
abbrev others : List Text
others =
    codes "check" ∷ codes "roster" ∷ codes "base" ∷ codes "run" ∷ codes "serve" ∷ (keys_names ++ hosts_names)

-- another subcommand is `rpc`
pub rpc_is : (words : List Text) → fault_of commands words ≡ []
    → AllByRecursion (λ name. option_map (λ p. p.0) (subcommand_of commands words) ≡ Some name → ⊥) others
    → asked_in words ≡ Some Rpc
rpc_is words none not_others =
    let e = entered_is commands words are_plain none in
    let rows = rows_after e.sub.rules [] e.rest in
    by e.sub.name rows e.is (name_is_one commands words are_plain none
    (codes "rpc" ∷ others) e.sub.name rows refl e.is)
  where
    no_other : (names : List Text) (name : Text) (rows : List Row)
        → subcommand_of commands words ≡ Some (name, rows)
        → AllByRecursion (λ n. option_map (λ p. p.0) (subcommand_of commands words) ≡ Some n → ⊥) names
        → list_any (λ n. bytes_eq name n) names ≡ true → ⊥
    no_other [] name rows is none e = cc
    no_other (n ∷ names) name rows is none e =
        one (bytes_eq name n) refl (no_other names name rows is none.1) e
      where
        one : (b : Bool) → bytes_eq name n ≡ b → (list_any (λ n. bytes_eq name n) names ≡ true → ⊥)
            → (b || list_any (λ n. bytes_eq name n) names) ≡ true → ⊥
        one true same rest e = none.0 (ap (option_map (λ (p : Text × List Row). p.0)) is
            ∙ ap (λ (t : Text). Some t) ((bytes_eq-Decides name n).0 same))
        one false same rest e = rest e

    by : (name : Text) (rows : List Row) → subcommand_of commands words ≡ Some (name, rows)
        → list_any (λ n. bytes_eq name n) (codes "rpc" ∷ others) ≡ true
        → asked_in words ≡ Some Rpc
    by name rows is one = of (bytes_eq name (codes "rpc")) refl one
      where
        of : (b : Bool) → bytes_eq name (codes "rpc") ≡ b
            → (b || list_any (λ n. bytes_eq name n) others) ≡ true → asked_in words ≡ Some Rpc
        of true same one = asked_is words name rows none is
            ∙ ap (λ (t : Text). asked_of (t, rows)) ((bytes_eq-Decides name (codes "rpc")).0 same)
        of false same one = absurd (no_other others name rows is not_others one)
