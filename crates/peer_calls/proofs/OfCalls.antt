-- A call asks what it says.
-- Serves: calls_ask_what_they_say.
use Rattle.std.proofs.Common.{◌≡◌, ℕ, List, ◌++◌, Ok, refl, ap, ◌∙◌, arith}
use Rattle.std.specs.Prelude.{◌<◌, ◌^◌}
use Rattle.rpc.specs.Call.{Version2, message_at}
use Rattle.rpc.proofs.Messages.{said_is_read}
use Rattle.peer_calls.specs.Calls.{call_text, judged, peer_header}
use Rattle.peer_calls.proofs.Read.{eqb-same}

pub asks_what_it_says : (xid program procedure : ℕ) (arguments : List ℕ) → xid < 2 ^ 32 → program < 2 ^ 32
    → procedure < 2 ^ 32
    → judged program (message_at (call_text xid program procedure ++ arguments))
    ≡ Ok (record { xid = xid; procedure = procedure; arguments = arguments })
asks_what_it_says xid program procedure arguments small below least =
    ap (judged program) (said_is_read _ (Version2 xid (peer_header program procedure)) arguments (record {
      is_message = (
        (small, ((omega arith, refl), omega arith)),
        (
          below,
          (omega arith, (least, ((omega arith, (omega arith, omega arith)), (omega arith, (omega arith, omega arith))))),
        ),
      );
      bytes_are = refl;
    })) ∙ rw (eqb-same program) refl
