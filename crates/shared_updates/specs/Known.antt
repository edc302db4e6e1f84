-- An update that is kept.
use Rattle.std.specs.Prelude.{◌≡◌, ℕ, All, List}
use Rattle.pixel_format.specs.Format.{Format}
use Rattle.terms.specs.Area.{LiesWithin}
use Rattle.terms.specs.declared.area.Area.{Area}
use Rattle.rect_data.specs.declared.encoding.Encoding.{Encoding}
use Rattle.painter.specs.Framebuffer.{Framebuffer, SameSize, AgreeIn}
use Rattle.shared_updates.specs.declared.copy.KeptCopy.{KeptCopy}
use Rattle.shared_updates.specs.declared.wanted.Wanted.{Wanted}
use Rattle.shared_updates.specs.Updates.{IsUpdateOf}

-- an update, and what it is one of
pub record Known : Type 0 where
  pub format : Format
  pub encoding : Encoding
  pub copies : List KeptCopy
  pub areas : List Area
  pub screen : Framebuffer
  pub bytes : List ℕ

-- it is an update of that, and its areas lie on the screen
pub record IsKnown (k : Known) : Type 0 where
  pub within : All (LiesWithin k.screen.width k.screen.height) k.areas
  pub is : IsUpdateOf k.format k.encoding k.screen k.copies k.areas k.bytes

-- it was written for one who wanted this
pub record IsFor (k : Known) (wanted : Wanted) : Type 0 where
  pub format : k.format ≡ wanted.format.now
  pub encoding : k.encoding ≡ wanted.encoding
  pub copies : k.copies ≡ wanted.copies.now
  pub areas : k.areas ≡ wanted.areas.now

-- a screen of the same size has the same colours in its areas
pub record ShowsSame (k : Known) (screen : Framebuffer) : Type 0 where
  pub size : SameSize k.screen screen
  pub agree : All (λ area. AgreeIn area k.screen screen) k.areas
