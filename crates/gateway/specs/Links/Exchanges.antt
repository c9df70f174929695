-- The exchanges that a link makes.
use Rattle.std.specs.Prelude.{◌≡◌, ℕ, List, [], ◌∷◌, map, Option}
use Rattle.nfs_items.specs.Timeval.{Timeval}

-- an exchange that was answered: its time, the record that was handed in, and the reply, if one came
pub record Exchange : Type 0 where
  pub time : Timeval
  pub bytes : List ℕ
  pub reply : Option (List ℕ)

-- what was handed in, each record with its time
abbrev pub calls_of : List Exchange → List (Timeval × List ℕ)
calls_of exchanges = map (λ e. (e.time, e.bytes)) exchanges

-- From one link these exchanges lead to another, one after the other. `Exchanges` says where one leads.
abbrev pub LeadsTo : {Link : Type 0} → (Link → Timeval → List ℕ → Option (List ℕ) → Link → Type 0) → Link
    → List Exchange → Link → Type 0
LeadsTo Exchanges link [] link' = link' ≡ link
LeadsTo {Link} Exchanges link (e ∷ es) link' =
    (between : Link) × Exchanges link e.time e.bytes e.reply between × LeadsTo Exchanges between es link'
