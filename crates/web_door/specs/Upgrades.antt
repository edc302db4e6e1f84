-- Which requests are answered by a WebSocket.
use Rattle.std.specs.Prelude.{◌≡◌, ◌⊎◌, ℕ, List, [], ◌∷◌, ◌++◌, codes, Ok, Err, Result, Option, None, Some}
use denote.Ref.{Bor}
use Rattle.request_head.specs.Fields.{Fields, values_of}
use Rattle.websocket.specs.Handshake.{IsValidKey, accept_key_of, requested_key}
use Rattle.web_door.specs.declared.upgrade.NotUpgraded.{NotUpgraded}
use Rattle.web_door.specs.declared.upgrade.NotUpgraded.TheVariants.{NoUpgrade, Foreign}

-- one value and no other, if it was found
abbrev pub IsOnly : List (List ℕ) → Option (Bor (List ℕ)) → Type 0
IsOnly values None = (value : List ℕ) → values ≡ value ∷ [] → ⊥
IsOnly values (Some value) = values ≡ value.now ∷ []

-- the origin of a page that came from this host (RFC 6454, section 6.2)
abbrev pub IsOriginOf : List ℕ → List ℕ → Type 0
IsOriginOf host origin = (origin ≡ codes "http://" ++ host) ⊎ (origin ≡ codes "https://" ++ host)

-- the page that asks came from the host that it asks (RFC 6455, section 10.2)
pub record IsFromHere (fields : Fields) : Type 0 where
  pub host : List ℕ
  pub origin : List ℕ
  pub is_host : values_of (codes "Host") fields ≡ host ∷ []
  pub is_origin : values_of (codes "Origin") fields ≡ origin ∷ []
  pub same : IsOriginOf host origin

-- it asks for a WebSocket (RFC 6455, section 4.2.1) with this key
abbrev pub AsksFor : List ℕ → ℕ → Fields → List ℕ → Type 0
AsksFor method minor fields key = (requested_key method minor fields ≡ Ok key) × IsValidKey key

-- what such a request is answered
abbrev pub IsAnswered : List ℕ → ℕ → Fields → Result (List ℕ) NotUpgraded → Type 0
IsAnswered method minor fields (Ok answer) = (key : List ℕ) × AsksFor method minor fields key × (answer ≡ accept_key_of key) × IsFromHere fields
IsAnswered method minor fields (Err NoUpgrade) = (key : List ℕ) → AsksFor method minor fields key → ⊥
IsAnswered method minor fields (Err Foreign) = ((key : List ℕ) × AsksFor method minor fields key) × (IsFromHere fields → ⊥)
