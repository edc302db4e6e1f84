-- The handshake of a viewer's stream, as it is heard and answered (RFC 6143, sections 7.1 to 7.3, in
-- version 3.8). The recorder speaks first.
use Rattle.std.specs.Prelude.{ℕ, ◌/◌, ◌%◌, List, [], ◌∷◌, ◌++◌, length, slice_index, nat_eq, Bool, if◌then◌else◌}
use Rattle.std.specs.Str.{bytes_eq}
use Rattle.terms.specs.Reading.{Got, Bad, field}
use Rattle.terms.specs.Talk.{Talk, silent, say, hear}
use Rattle.terms.specs.Number.{u32_bytes}
use Rattle.viewer_session.specs.declared.fault.SessionFault.{SessionFault}
use Rattle.viewer_session.specs.declared.fault.SessionFault.TheVariants as faults

-- RFB 003.008 and a newline
abbrev pub version : List ℕ
version = 82 ∷ 70 ∷ 66 ∷ 32 ∷ 48 ∷ 48 ∷ 51 ∷ 46 ∷ 48 ∷ 48 ∷ 56 ∷ 10 ∷ []

-- no security types, and a reason: only RFB 003.008
abbrev pub no_version : List ℕ
no_version = 0 ∷ 0 ∷ 0 ∷ 0 ∷ 16 ∷ 111 ∷ 110 ∷ 108 ∷ 121 ∷ 32 ∷ 82 ∷ 70 ∷ 66 ∷ 32 ∷ 48 ∷ 48 ∷ 51 ∷ 46 ∷ 48 ∷ 48 ∷ 56 ∷ []

-- one security type: None
abbrev pub none_offered : List ℕ
none_offered = 1 ∷ 1 ∷ []

-- SecurityResult: OK (section 7.1.3)
abbrev pub ok : List ℕ
ok = 0 ∷ 0 ∷ 0 ∷ 0 ∷ []

-- SecurityResult: failed, and a reason: only None
abbrev pub no_type : List ℕ
no_type = 0 ∷ 0 ∷ 0 ∷ 1 ∷ 0 ∷ 0 ∷ 0 ∷ 9 ∷ 111 ∷ 110 ∷ 108 ∷ 121 ∷ 32 ∷ 78 ∷ 111 ∷ 110 ∷ 101 ∷ []

-- the host format, as 16 bytes (section 7.4)
abbrev pub host_format_bytes : List ℕ
host_format_bytes = 32 ∷ 24 ∷ 0 ∷ 1 ∷ 0 ∷ 255 ∷ 0 ∷ 255 ∷ 0 ∷ 255 ∷ 16 ∷ 8 ∷ 0 ∷ 0 ∷ 0 ∷ 0 ∷ []

-- ServerInit: width, height, the host format, and the name (section 7.3.2)
abbrev pub server_init : ℕ → ℕ → List ℕ → List ℕ
server_init width height name = width / 256 ∷ width % 256 ∷ height / 256 ∷ height % 256 ∷ (host_format_bytes ++ (u32_bytes (length name) ++ name))

-- ClientInit: the shared-flag, which isn't looked at (section 7.3.1)
unfoldable pub init_at : ℕ → ℕ → List ℕ → List ℕ → Talk (Unit {0}) SessionFault
init_at width height name bytes = hear (field 1 bytes) (λ flag rest. say (server_init width height name) (silent (Got tt rest)))

abbrev pub chosen : ℕ → ℕ → List ℕ → ℕ → List ℕ → Talk (Unit {0}) SessionFault
chosen width height name type rest = if nat_eq type 1 then say ok (init_at width height name rest) else say no_type (silent (Bad faults.Security))

-- the security type that is chosen (section 7.1.2)
unfoldable pub choice_at : ℕ → ℕ → List ℕ → List ℕ → Talk (Unit {0}) SessionFault
choice_at width height name bytes = hear (field 1 bytes) (λ f rest. chosen width height name (slice_index f 0) rest)

abbrev pub versioned : ℕ → ℕ → List ℕ → Bool → List ℕ → Talk (Unit {0}) SessionFault
versioned width height name same rest = if same then say none_offered (choice_at width height name rest) else say no_version (silent (Bad faults.Version))

-- the version that the viewer speaks (section 7.1.1)
unfoldable pub version_at : ℕ → ℕ → List ℕ → List ℕ → Talk (Unit {0}) SessionFault
version_at width height name bytes = hear (field 12 bytes) (λ f rest. versioned width height name (bytes_eq f version) rest)

-- all of it, for a screen of this size and name
abbrev pub handshake_at : ℕ → ℕ → List ℕ → List ℕ → Talk (Unit {0}) SessionFault
handshake_at width height name bytes = say version (version_at width height name bytes)
