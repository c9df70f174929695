-- What clap's rules leave of the words that they take, for any commands whose arguments are each
-- given once at most: a subcommand is named, and it isn't `help`; an argument that it requires has a
-- value; a flag is set or isn't.
-- Serves: request_by_rules.
use Rattle.std.proofs.Common.{◌≡◌, ◌∙◌, ℕ, Bool, true, false, List, [], ◌∷◌, Option, Some, None, IfSome}
use Rattle.std.proofs.Common.{codes, option_map, refl, sym, ap, subst, unwrap_or}
use Rattle.std.specs.Prelude.{⊤, ◌&&◌, ◌||◌, find, fold, if◌then◌else◌, is_some, not}
use Rattle.std.specs.List.{AllByRecursion, list_all, list_any}
use Rattle.std.specs.Option.{option_map_or}
use Rattle.std.specs.Str.{bytes_eq}
use Rattle.std.proofs.lemmas.Slice.Eq.{bytes_eq-Decides}
use Rattle.clap.specs.Lexer.{long_of, short_of}
use Rattle.clap.specs.Kinds.{Kinds, check_kinds, or_else}
use Rattle.clap.specs.Walk.{Held, Names, Outcome, Row, Rule, Step, Text, Waiting, Walk, action_of, after_flag}
use Rattle.clap.specs.Walk.{after_step, answers_to, arg_by_index, done, first_of, idle, is_empty}
use Rattle.clap.specs.Walk.{long_or_other, next, nothing_held, option, plain, plain_word}
use Rattle.clap.specs.Walk.{positional, refused, rows_after, settled, short_or_plain, stop_after, subcommand}
use Rattle.clap.specs.Walk.{subcommand_met, subcommand_or_other, to_positional, trailing, value, waits, walk}
use Rattle.clap.specs.Walk.{walk_from, walked, walked_from, word_met}
use Rattle.clap.specs.Simple.{App, Shape, argument_words, built, entered, label_of, names_of, rows_at}
use Rattle.clap.specs.Simple.{subcommand_of}
use Rattle.clap.specs.Takes.{is_given}
use Rattle.clap.specs.Faults.{check_fault, defaults_fault, entered_fault, fault_of, level_fault}
use Rattle.clap.specs.Faults.{other_fault, settle_fault, step_fault, turn_fault, walk_fault, word_fault}
use Rattle.clap.specs.declared.error.kind.ErrorKind.TheVariants as kind
use Rattle.clap.proofs.WalkLemmas.{both}
use Rattle.clap.proofs.SimpleLemmas.{is_nil}
use Rattle.command_line.specs.CommandLine.{is_told}
use Rattle.command_line.proofs.Rows.{IsOneOf, IsRowOf, flag_is_told, found, has_value, is_flag}
use Rattle.command_line.proofs.Rows.{none_first, none_then, rows_are, sets_once, value_is_there, when}

-- ---- the subcommand that a walk stops at isn't `help`

abbrev is_help : Text → Bool
is_help name = bytes_eq name (codes "help")

abbrev IsOther : Step → Type 0
IsOther (subcommand name) = is_help name ≡ false
IsOther _ = ⊤

-- a flag, or its value, names none
plain_is_other : (c : List Rule) (waiting : Waiting) (word : Text) (h : Held)
    → IsOther (plain_word c waiting word h).1
plain_is_other c idle word h = tt
plain_is_other c positional word h = tt
plain_is_other c (option id) word h = tt

after_is_other : (c : List Rule) (waiting : Waiting) (word : Text) (h : Held) (outcome : Outcome)
    → IsOther (after_flag c waiting word h outcome).1
after_is_other c waiting word h done = tt
after_is_other c waiting word h (waits id) = tt
after_is_other c waiting word h plain = plain_is_other c waiting word h
after_is_other c waiting word h refused = plain_is_other c waiting word h

flag_is_other : (c : List Rule) (waiting : Waiting) (word : Text) (o : Option (Text × Option Text)) (h : Held)
    → IsOther (long_or_other c waiting word o h).1
flag_is_other c waiting word (Some p) h = after_is_other c waiting word _ _
flag_is_other c waiting word None h = by (short_of word)
  where
    by : (o : Option Text) → IsOther (short_or_plain c waiting word o h).1
    by (Some flags) = after_is_other c waiting word _ _
    by None = plain_is_other c waiting word h

module _ (s : Shape) (names : Names) (help : s.disable_help_subcommand ≡ false) where
  met_is_other : (is_trailing : Bool) (waiting : Waiting) (position : ℕ) (word : Text) (h : Held)
      → word_fault s names is_trailing waiting word h ≡ []
      → IsOther (word_met s.rules names is_trailing waiting position word h).1
  met_is_other true waiting position word h none = tt
  met_is_other false waiting position word h none = by (subcommand_met names waiting word) none
    where
      not_help : (is off : Bool) → off ≡ false
          → (if is && not off then kind.DisplayHelp ∷ kind.InvalidSubcommand ∷ [] else []) ≡ [] → is ≡ false
      not_help false off e f = refl
      not_help true true e f = cc
      not_help true false e f = cc

      dashes : (b : Bool) → IsOther
          (if b then (h, trailing position) else long_or_other s.rules waiting word (long_of word) h).1
      dashes true = tt
      dashes false = flag_is_other s.rules waiting word (long_of word) h

      by : (o : Option Text) → other_fault s o word h ≡ []
          → IsOther (subcommand_or_other s.rules o waiting position word h).1
      by (Some name) e = not_help (is_help name) s.disable_help_subcommand help e
      by None e = dashes (bytes_eq word (45 ∷ 45 ∷ []))

  abbrev stops_at_help : Option (Text × List Text) → Bool
  stops_at_help o = option_map_or (λ p. is_help p.0) o false

  step_is_other : (w : Walk) (word : Text) (h : Held) (step : Step) → stops_at_help w.stopped ≡ false
      → IsOther step
      → stops_at_help (after_step s.rules word w h step).stopped ≡ false
  step_is_other w word h (next waiting) before other = before
  step_is_other w word h (trailing position) before other = before
  step_is_other w word h (subcommand name) before other = other
  step_is_other w word h value before other = by (arg_by_index s.rules w.position)
    where
      by : (o : Option Rule) → stops_at_help (to_positional s.rules o word w h).stopped ≡ false
      by None = before
      by (Some a) = refl

  walk_is_other : (words : List Text) (w : Walk) → stops_at_help w.stopped ≡ false
      → walk_fault s names w words ≡ []
      → stops_at_help (fold (walked s.rules names) w words).stopped ≡ false
  unfolding walked walk_fault
  walk_is_other [] w before none = before
  walk_is_other (word ∷ words) w before none =
      walk_is_other words (walked s.rules names w word) (by w.stopped before (none_first _ _ none))
      (none_then (turn_fault s names w word) _ none)
    where
      by : (o : Option (Text × List Text)) → stops_at_help o ≡ false
          → (let met = word_met s.rules names w.is_trailing w.waiting w.position word w.held in
          if is_some o then [] else or_else (word_fault s names w.is_trailing w.waiting word w.held)
          (step_fault s w.position met.0 met.1)) ≡ []
          → stops_at_help (walked_from s.rules names o w word).stopped ≡ false
      by (Some p) e f = e
      by None e f =
          let met = word_met s.rules names w.is_trailing w.waiting w.position word w.held in
          step_is_other w word met.0 met.1 before
          (met_is_other w.is_trailing w.waiting w.position word w.held (none_first _ _ f))

-- ---- the level of a command

-- the last checks of a level find no fault
checks_pass : (s : Shape) (names : Names) (words : List Text) (has : Bool) (below : Kinds)
    → level_fault s names nothing_held words has below ≡ []
    → check_fault s (rows_after s.rules names words) has ≡ []
checks_pass s names words has below none =
    let end = (walk s.rules names nothing_held words).held in
    none_then (defaults_fault (settled s.rules end).rows s.rules) _
    (none_then (settle_fault s.rules s.args_override_self end) _
    (none_then below _ (none_then (walk_fault s names (walk_from nothing_held) words) _ none)))

-- a subcommand is there, where one must be
is_entered : (help wanted argument has : Bool) → wanted ≡ true
    → check_kinds help (not has && wanted) argument ≡ [] → has ≡ true
is_entered help wanted argument true e f = refl
is_entered true wanted argument false e f = cc
is_entered false true argument false e f = cc
is_entered false false argument false e f = cc

-- what is required is there
is_there : (help wanted negates argument : Bool)
    → check_kinds help wanted (not (negates && false) && argument) ≡ [] → argument ≡ false
is_there true wanted negates argument e = cc
is_there false true negates argument e = cc
is_there false false true true e = cc
is_there false false false true e = cc
is_there false false negates false e = refl

-- an argument of the id is required
abbrev pub is_required : Text → List Rule → Bool
is_required id c = list_any (λ a. a.required && bytes_eq a.id id) c

required_is_given : (c : List Rule) (id : Text) (rows : List Row) → is_required id c ≡ true
    → list_any (λ a. a.required && not (is_given a.id rows)) c ≡ false
    → is_given id rows ≡ true
required_is_given [] id rows e f = cc
required_is_given (a ∷ c) id rows e f =
    by a.required (bytes_eq a.id id) refl (required_is_given c id rows) e f
  where
    given : (b : Bool) (rest : Bool) → (not b || rest) ≡ false → b ≡ true
    given true rest g = refl
    given false rest g = cc

    rest_none : (b rest : Bool) → (b || rest) ≡ false → rest ≡ false
    rest_none true rest g = cc
    rest_none false rest g = g

    by : (r b : Bool) → bytes_eq a.id id ≡ b
        → (is_required id c ≡ true → list_any (λ a. a.required && not (is_given a.id rows)) c ≡ false
        → is_given id rows ≡ true) → ((r && b) || is_required id c) ≡ true
        → ((r && not (is_given a.id rows)) || list_any
        (λ a. a.required && not (is_given a.id rows)) c) ≡ false → is_given id rows ≡ true
    by true true is more e f = subst (λ t. is_given t rows ≡ true) ((bytes_eq-Decides a.id id).0 is)
        (given (is_given a.id rows) _ f)
    by true false is more e f = more e (rest_none _ _ f)
    by false b is more e f = more e f

-- ---- commands

-- `help` aside, a command whose arguments are each given once at most, and that has one name
abbrev pub is_plain_shape : Shape → Bool
is_plain_shape s = is_empty s.aliases &&
    (is_help s.name || (not s.args_override_self && list_all (λ a. sets_once (action_of a)) s.rules))

-- one of such subcommands must be named
abbrev pub is_plain_app : App → Bool
is_plain_app a = a.top.subcommand_required &&
    (not a.top.disable_help_subcommand && list_all is_plain_shape a.subs)

-- a subcommand of b with its matches, of some words
pub record Entered (b : App) (o : Option (Text × List Row)) : Type 0 where
  -- the subcommand
  pub sub : Shape
  -- the words after its name
  pub rest : List Text
  -- it is one of those of b
  pub is_one : IsOneOf b.subs sub
  -- it isn't `help`
  pub no_help : is_help sub.name ≡ false
  -- what was found is its name, with the matches of these words
  pub is : o ≡ Some (sub.name, rows_after sub.rules [] rest)
  -- its rules find no fault in these words
  pub none : level_fault sub [] nothing_held rest false [] ≡ []

of_not : (b : Bool) → not b ≡ true → b ≡ false
of_not true e = cc
of_not false e = refl

or_none : (b c : Bool) → (b || c) ≡ true → c ≡ false → b ≡ true
or_none true c e f = refl
or_none false c e f = sym f ∙ e

or_other : (b c : Bool) → (b || c) ≡ true → b ≡ false → c ≡ true
or_other true c e f = cc
or_other false c e f = e

-- an argument of the id is required, and has a value
abbrev pub requires : Text → Shape → Bool
requires id s = is_required id s.rules && list_all (λ a. not (bytes_eq a.id id) || has_value a) s.rules

-- each argument of the id is a flag
abbrev pub has_flag : Text → Shape → Bool
has_flag id s = list_all (λ a. not (bytes_eq a.id id) || is_flag a) s.rules

-- the subcommand of a name passes a test
abbrev pub passes : App → Text → (Shape → Bool) → Bool
passes b name test = list_all (λ s. not (bytes_eq s.name name) || test s) b.subs

module _ (a : App) (words : List Text) (plain_app : is_plain_app (built a) ≡ true)
    (none : fault_of a words ≡ []) where
  -- where no fault is found a subcommand is entered
  pub entered_is : Entered (built a) (subcommand_of a words)
  entered_is = by (stop_after (built a).top.rules (names_of (built a)) (argument_words a words)) other below
      has
    where
      b : App
      b = built a

      tests : (b.top.subcommand_required ≡ true)
          × ((not b.top.disable_help_subcommand && list_all is_plain_shape b.subs) ≡ true)
      tests = both _ _ plain_app

      has : is_some (subcommand_of a words) ≡ true
      has = is_entered _ _ _ _ tests.0 (checks_pass _ _ _ _ _ none)

      below : entered_fault b (stop_after b.top.rules (names_of b) (argument_words a words)) ≡ []
      below = none_first _ _ (none_then
          (walk_fault b.top (names_of b) (walk_from nothing_held) (argument_words a words)) _ none)

      other : option_map_or (λ p. is_help p.0) (stop_after b.top.rules (names_of b) (argument_words a words))
          false ≡ false
      other = walk_is_other b.top (names_of b) (of_not _ (both _ _ tests.1).0) (argument_words a words)
          (walk_from nothing_held) refl (none_first _ _ none)

      by : (stop : Option (Text × List Text)) → option_map_or (λ p. is_help p.0) stop false ≡ false
          → entered_fault b stop ≡ [] → is_some (entered b stop) ≡ true
          → Entered b (entered b stop)
      by None e f g = cc
      by (Some p) e f g = named (find (λ s. answers_to p.0 (label_of s)) b.subs) (found _ b.subs) f g
        where
          one_name : (name : Text) (aliases : List Text) → aliases ≡ []
              → answers_to p.0 (name, aliases) ≡ true → is_help name ≡ false
          one_name name aliases nil answers =
              let is : bytes_eq name p.0 ≡ true =
              or_none _ _ answers (ap (list_any (λ alias. bytes_eq alias p.0)) nil) in
              subst (λ t. is_help t ≡ false) (sym ((bytes_eq-Decides name p.0).0 is)) e

          named : (o : Option Shape) → IfSome o (λ s. IsOneOf b.subs s × (answers_to p.0 (label_of s) ≡ true))
              → option_map_or (λ s. level_fault s [] nothing_held p.1 false []) o [] ≡ []
              → is_some (option_map (λ s. rows_at s p.1) o) ≡ true
              → Entered b (option_map (λ s. rows_at s p.1) o)
          named None h f g = cc
          named (Some s) h f g =
              let plain : is_plain_shape s ≡ true = h.0 is_plain_shape (both _ _ tests.1).1 in
              record {
                sub = s;
                rest = p.1;
                is_one = h.0;
                no_help = one_name s.name s.aliases (is_nil _ (both _ _ plain).0) h.1;
                is = refl;
                none = f;
              }

  -- the rows of the subcommand, and what a test tells of it
  record Named (name : Text) (rows : List Row) (test : Shape → Bool) : Type 0 where
    sub : Shape
    passes : test sub ≡ true
    are_rows : AllByRecursion (IsRowOf sub.rules) rows
    checked : check_fault sub rows false ≡ []

  named : (name : Text) (rows : List Row) (test : Shape → Bool) → subcommand_of a words ≡ Some (name, rows)
      → passes (built a) name test ≡ true → Named name rows test
  named name rows test is all =
      let e = entered_is in
      let same : Some (name, rows) ≡ Some (e.sub.name, rows_after e.sub.rules [] e.rest) = sym is ∙ e.is in
      let same_name : e.sub.name ≡ name =
      sym (ap (λ (o : Option (Text × List Row)). (unwrap_or o (name, rows)).0) same) in
      let same_rows : rows_after e.sub.rules [] e.rest ≡ rows =
      sym (ap (λ (o : Option (Text × List Row)). (unwrap_or o (name, rows)).1) same) in
      let plain = both _ _ (or_other _ _
      (both _ _ (e.is_one is_plain_shape (both _ _ (both _ _ plain_app).1).1)).1 e.no_help) in
      record {
        sub = e.sub;
        passes = when _ _ (e.is_one _ all) ((bytes_eq-Decides e.sub.name name).1 same_name);
        are_rows = subst (AllByRecursion (IsRowOf e.sub.rules)) same_rows
            (rows_are e.sub [] (of_not _ plain.0) plain.1 e.rest false [] e.none);
        checked = subst (λ rs. check_fault e.sub rs false ≡ []) same_rows
            (checks_pass e.sub [] e.rest false [] e.none);
      }

  -- a required argument has a value
  pub value_is : (name id : Text) (rows : List Row) → passes (built a) name (requires id) ≡ true
      → subcommand_of a words ≡ Some (name, rows) → is_some (first_of id rows) ≡ true
  value_is name id rows all is =
      let n = named name rows (requires id) is all in
      let tests = both _ _ n.passes in
      value_is_there n.sub.rules id rows n.are_rows tests.1
      (required_is_given n.sub.rules id rows tests.0
      (is_there _ _ n.sub.subcommand_negates_reqs _ n.checked))

  -- a flag is set, or isn't
  pub flag_is : (name id : Text) (rows : List Row) → passes (built a) name (has_flag id) ≡ true
      → subcommand_of a words ≡ Some (name, rows)
      → is_told id rows ≡ true
  flag_is name id rows all is =
      let n = named name rows (has_flag id) is all in
      flag_is_told n.sub.rules id rows n.are_rows n.passes

  -- the subcommand's name is one of some, if `help` and these are all that there are
  pub name_is_one : (names : List Text) (name : Text) (rows : List Row)
      → list_all (λ s. is_help s.name || list_any (λ n. bytes_eq s.name n) names) (built a).subs ≡ true
      → subcommand_of a words ≡ Some (name, rows) → list_any (λ n. bytes_eq name n) names ≡ true
  name_is_one names name rows all is =
      let e = entered_is in
      let same : e.sub.name ≡ name =
      sym (ap (λ (o : Option (Text × List Row)). (unwrap_or o (name, rows)).0) (sym is ∙ e.is)) in
      subst (λ t. list_any (λ n. bytes_eq t n) names ≡ true) same (or_other _ _ (e.is_one _ all) e.no_help)
