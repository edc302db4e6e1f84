-- What reading bytes as one message answers (RFC 6143, section 7.6).
use Rattle.std.specs.Prelude.{◌≡◌, ℕ, List, Result, Err, IfOk, MatchResult}
use Rattle.terms.specs.declared.format.Format.{Format}
use Rattle.terms.specs.Fault.{UnlessMemory}
use Rattle.terms.specs.declared.wire_fault.WireFault.{WireFault}
use Rattle.terms.specs.declared.wire_fault.WireFault.TheVariants as faults
use Rattle.client_wire.specs.Stream.{FaultOf}
use Rattle.rfb_wire.specs.declared.fault.BytesFault.{BytesFault}
use Rattle.rfb_wire.specs.declared.fault.BytesFault.TheVariants.{NotOne, Wire}
use Rattle.rfb_wire.specs.Grammar.{message_at, message_limit}
use Rattle.rfb_wire.specs.Host.{Host}
use Rattle.rfb_wire.specs.Stream.{IsFor}

-- The message that the bytes are, or the fault of a reader that is fed them, or that they are no
-- message.
pub record IsReadBack (format : Format) (width height : ℕ) (bytes : List ℕ) (result : Result Host BytesFault) : Type 0 where
  pub ok : IfOk result (λ m. IsFor format width height m × (m.bytes ≡ bytes))
  -- what is one message is read as that message
  pub whole : (m : Host) → IsFor format width height m → m.bytes ≡ bytes
      → MatchResult result (λ n. n ≡ m) (λ f. f ≡ Wire faults.NoMemory)
  pub not_one : result ≡ Err NotOne → (m : Host) → IsFor format width height m → m.bytes ≡ bytes → ⊥
  pub no_fault : result ≡ Err NotOne → (f : WireFault) → FaultOf (message_at (message_limit format) width height) bytes f → ⊥
  pub wire : (f : WireFault) → result ≡ Err (Wire f) → UnlessMemory f (FaultOf (message_at (message_limit format) width height) bytes f)
