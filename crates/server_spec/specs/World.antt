-- All that a server's replies depend on.
use Rattle.std.specs.Prelude.{ℕ, List, [], refl}
use Rattle.std.specs.Coded.{Coded, code_by, coded×, coded_ℕ, coded_list}
use Rattle.mount_types.specs.nfs_items.Timeval.{Timeval, timeval_code, later}
use Rattle.nfs_laws.specs.fs_spec.Files.{Files, files_code}
use Rattle.nfs_laws.specs.nfs_spec.Opening.{opening_files, epoch}

-- the files, the last clock reading, and the mounts as host name and directory, in order
pub record World : Type 0 where
  pub files : Files
  pub clock : Timeval
  pub mounts : List (List ℕ × List ℕ)

-- the world of these files, this clock and these mounts
abbrev pub world_of : Files → Timeval → List (List ℕ × List ℕ) → World
world_of files clock mounts = record { files = files; clock = clock; mounts = mounts }

-- worlds are told apart by their files, clock and mounts
abbrev pub world_code : Coded World
world_code =
    code_by (Files × (Timeval × List (List ℕ × List ℕ)))
    (coded× files_code (coded× timeval_code (coded_list (coded× (coded_list coded_ℕ) (coded_list coded_ℕ)))))
    (λ w. (w.files, (w.clock, w.mounts)))
    (λ p. record { files = p.0; clock = p.1.0; mounts = p.1.1 }) (λ _. refl)

-- the world that the server of a node begins with
abbrev pub opening_world : ℕ → World
opening_world node = record { files = opening_files node; clock = epoch; mounts = [] }

-- the world with the clock that a call at a time uses: the later of that time and the last reading
abbrev pub at_time : World → Timeval → World
at_time w time = record w { clock = later time w.clock }
