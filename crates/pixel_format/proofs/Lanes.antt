-- Channels that take bits of their own do not disturb one another.
use Rattle.std.proofs.Common.{◌≡◌, ℕ, zero, suc, ◌+◌, ◌-◌, ◌*◌, ◌/◌, ◌%◌, ◌^◌, ◌<◌, ◌≤◌, ◌∙◌, ◌⊎◌, inl, inr, refl, sym, ap, subst, arith}
use Rattle.std.specs.Prelude.{bit_and}
use Rattle.std.specs.Int.RustNames.{bit_or}
use Rattle.std.proofs.Math.Nat.{mod-eq_of_lt, pow-le-pow_right}
use Rattle.std.proofs.lemmas.Nat.{pow_pos, pow-add, shl-shr, and_le_l, and_le_r, and_comm, and_assoc, and_mask, and_block, or_disjoint, or_comm, or_lt, and_or_apart, mul-le}
use Rattle.std.proofs.lemmas.Nat.Bits.{and_high}
use Rattle.std.proofs.lemmas.Bool.{cases_lt}
use Rattle.std.specs.Prelude.{List}
use Rattle.pixel_format.specs.declared.Color.{Color}
use Rattle.pixel_format.specs.Pixel.{pixel_number, pixel_color, color_number}
use Rattle.pixel_format.specs.Format.{Channel, Format, IsChannel, IsValid, mask}

-- bits within a mask that has none of some others
pub outside : (y Y x : ℕ) → bit_and y Y ≡ y → bit_and Y x ≡ 0 → bit_and y x ≡ 0
outside y Y x within none =
    let none' : bit_and y (bit_and Y x) ≡ 0 = rw none (omega (arith, and_le_r y 0)) in
    ap (λ n. bit_and n x) (sym within) ∙ and_assoc x y Y ∙ none'

pub apart : (x X y Y : ℕ) → bit_and x X ≡ x → bit_and y Y ≡ y → bit_and X Y ≡ 0 → bit_and x y ≡ 0
apart x X y Y in_x in_y none =
    and_comm x y ∙ outside y Y x in_y (and_comm Y x ∙ outside x X Y in_x none)

-- a value of a channel, at its shift, lies within the channel's bits
pub in_mask : (n s max v : ℕ) → max + 1 ≡ 2 ^ n → v ≤ max → bit_and (v * 2 ^ s) (max * 2 ^ s) ≡ v * 2 ^ s
in_mask n s max v full small =
    let block : bit_and (v * 2 ^ s + 0) (max * 2 ^ s + 0) ≡ bit_and v max * 2 ^ s + bit_and 0 0 = and_block s v max 0 0 (pow_pos s) (pow_pos s) in
    let is : 2 ^ n - 1 ≡ max = omega arith in
    let below : v < 2 ^ n = omega arith in
    let value : bit_and v max ≡ v = ap (bit_and v) (sym is) ∙ and_mask v n ∙ mod-eq_of_lt below in
    let zeros : bit_and 0 0 ≡ 0 = omega (arith, and_le_l 0 0) in
    let v_0 : v * 2 ^ s + 0 ≡ v * 2 ^ s = omega arith in
    let max_0 : max * 2 ^ s + 0 ≡ max * 2 ^ s = omega arith in
    let masked : bit_and (v * 2 ^ s) (max * 2 ^ s) ≡ bit_and v max * 2 ^ s + bit_and 0 0 = rw (← v_0, ← max_0) block in
    let is_v : bit_and v max * 2 ^ s + bit_and 0 0 ≡ v * 2 ^ s = rw (value, zeros) (omega arith) in
    masked ∙ is_v

-- and is found there
pub found : (n s max x number : ℕ) → max + 1 ≡ 2 ^ n → bit_and number (max * 2 ^ s) ≡ x * 2 ^ s → number / 2 ^ s % (max + 1) ≡ x
found n s max x number full e =
    let power : 2 ^ (n + s) ≡ 2 ^ n * 2 ^ s = pow-add 2 n s in
    let split : 2 ^ n * 2 ^ s ≡ max * 2 ^ s + 2 ^ s = ap (λ m. m * 2 ^ s) (sym full) ∙ omega arith in
    let is : 2 ^ (n + s) - 2 ^ s ≡ max * 2 ^ s = omega arith in
    let high : (number / 2 ^ s % 2 ^ n) * 2 ^ s ≡ x * 2 ^ s = sym (and_high number n s) ∙ ap (bit_and number) is ∙ e in
    let value : number / 2 ^ s % 2 ^ n ≡ x = sym (shl-shr (number / 2 ^ s % 2 ^ n) s) ∙ ap (λ m. m / 2 ^ s) high ∙ shl-shr x s in
    ap (λ m. number / 2 ^ s % m) full ∙ value

-- numbers within masks that have no bit in common
pub record Three (x y z X Y Z : ℕ) : Type 0 where
  pub first : bit_and (x + y + z) X ≡ x
  pub second : bit_and (x + y + z) Y ≡ y
  pub third : bit_and (x + y + z) Z ≡ z
  pub sum : bit_or (bit_or x y) z ≡ x + y + z

pub three : (x y z X Y Z : ℕ) → bit_and x X ≡ x → bit_and y Y ≡ y → bit_and z Z ≡ z
    → bit_and X Y ≡ 0 → bit_and X Z ≡ 0 → bit_and Y Z ≡ 0 → Three x y z X Y Z
three x y z X Y Z in_x in_y in_z xy xz yz =
    let or1 : bit_or x y ≡ x + y = or_disjoint x y (apart x X y Y in_x in_y xy) in
    let y_z : bit_and y z ≡ 0 = apart y Y z Z in_y in_z yz in
    let x_z : bit_and x z ≡ 0 = apart x X z Z in_x in_z xz in
    let xy_z : bit_and (bit_or x y) z ≡ 0 = and_or_apart z x y y_z ∙ x_z in
    let or2 : bit_or (bit_or x y) z ≡ bit_or x y + z = or_disjoint (bit_or x y) z xy_z in
    let sum : bit_or (bit_or x y) z ≡ x + y + z = or2 ∙ ap (λ m. m + z) or1 in
    let z_X : bit_and z X ≡ 0 = outside z Z X in_z (and_comm Z X ∙ xz) in
    let y_X : bit_and y X ≡ 0 = outside y Y X in_y (and_comm Y X ∙ xy) in
    let z_Y : bit_and z Y ≡ 0 = outside z Z Y in_z (and_comm Z Y ∙ yz) in
    let x_Y : bit_and x Y ≡ 0 = outside x X Y in_x xy in
    let y_Z : bit_and y Z ≡ 0 = outside y Y Z in_y yz in
    let x_Z : bit_and x Z ≡ 0 = outside x X Z in_x xz in
    let xy_Z : bit_and (bit_or x y) Z ≡ 0 = and_or_apart Z x y y_Z ∙ x_Z in
    record {
      first = ap (λ m. bit_and m X) (sym sum) ∙ and_or_apart X (bit_or x y) z z_X ∙ and_or_apart X x y y_X ∙ in_x;
      second = ap (λ m. bit_and m Y) (sym sum) ∙ and_or_apart Y (bit_or x y) z z_Y ∙ ap (λ m. bit_and m Y) (or_comm x y) ∙ and_or_apart Y y x x_Y ∙ in_y;
      third = ap (λ m. bit_and m Z) (sym sum ∙ or_comm (bit_or x y) z) ∙ and_or_apart Z z (bit_or x y) xy_Z ∙ in_z;
      sum = sum;
    }

-- a value of a channel that has bits isn't cut, and there is none but 0 if it has none
pub shifted_whole : (bits v max s r : ℕ) → v ≤ max → max * 2 ^ s < 2 ^ bits → (0 < max → r ≡ s) → v * 2 ^ r % 2 ^ bits ≡ v * 2 ^ s
shifted_whole bits v zero s r small inside is =
    let none : v ≡ 0 = omega arith in
    ap (λ (n : ℕ). n * 2 ^ r % 2 ^ bits) none ∙ omega arith ∙ sym (ap (λ (n : ℕ). n * 2 ^ s) none)
shifted_whole bits v (suc max) s r small inside is =
    let fits : v * 2 ^ s ≤ suc max * 2 ^ s = mul-le v (2 ^ s) (suc max) (2 ^ s) small (omega arith) in
    ap (λ (n : ℕ). v * 2 ^ n % 2 ^ bits) (is (omega arith)) ∙ mod-eq_of_lt (omega arith)

-- a shift below the number of bits, if there is something to shift
pub shift_below : (bits v max s : ℕ) → 0 < v → v ≤ max → max * 2 ^ s < 2 ^ bits → s < bits
shift_below bits v max s some small inside = elim (cases_lt s bits) [
  | inl t ↦ t
  | inr t ↦
      (let power : 2 ^ bits ≤ 2 ^ s = pow-le-pow_right (omega arith) t in
      let one : 1 * 2 ^ s ≤ max * 2 ^ s = mul-le 1 (2 ^ s) max (2 ^ s) (omega arith) (omega arith) in
      absurd (omega arith))
]

-- values of the three channels of a format, each at its shift
pub record Shifted (f : Format) (r g b : ℕ) : Type 0 where
  pub below : r * 2 ^ f.red.shift + g * 2 ^ f.green.shift + b * 2 ^ f.blue.shift < 2 ^ f.bits
  pub red : (r * 2 ^ f.red.shift + g * 2 ^ f.green.shift + b * 2 ^ f.blue.shift) / 2 ^ f.red.shift % (f.red.max + 1) ≡ r
  pub green : (r * 2 ^ f.red.shift + g * 2 ^ f.green.shift + b * 2 ^ f.blue.shift) / 2 ^ f.green.shift % (f.green.max + 1) ≡ g
  pub blue : (r * 2 ^ f.red.shift + g * 2 ^ f.green.shift + b * 2 ^ f.blue.shift) / 2 ^ f.blue.shift % (f.blue.max + 1) ≡ b

within_mask : (c : Channel) (bits v : ℕ) → IsChannel bits c → v ≤ c.max → v * 2 ^ c.shift < 2 ^ bits
within_mask c bits v channel small =
    let le : v * 2 ^ c.shift ≤ c.max * 2 ^ c.shift = mul-le v (2 ^ c.shift) c.max (2 ^ c.shift) small (omega arith) in
    omega (arith, channel.inside)

pub shifted_apart : (f : Format) (r g b : ℕ) → IsValid f → r ≤ f.red.max → g ≤ f.green.max → b ≤ f.blue.max → Shifted f r g b
shifted_apart f r g b valid small_r small_g small_b =
    let x = in_mask valid.red.full.0 f.red.shift f.red.max r valid.red.full.2 small_r in
    let y = in_mask valid.green.full.0 f.green.shift f.green.max g valid.green.full.2 small_g in
    let z = in_mask valid.blue.full.0 f.blue.shift f.blue.max b valid.blue.full.2 small_b in
    let t = three (r * 2 ^ f.red.shift) (g * 2 ^ f.green.shift) (b * 2 ^ f.blue.shift) (mask f.red) (mask f.green) (mask f.blue)
    x y z valid.red_and_green valid.red_and_blue valid.green_and_blue in
    let or_below = or_lt f.bits (bit_or (r * 2 ^ f.red.shift) (g * 2 ^ f.green.shift)) (b * 2 ^ f.blue.shift)
    (or_lt f.bits (r * 2 ^ f.red.shift) (g * 2 ^ f.green.shift) (within_mask f.red f.bits r valid.red small_r) (within_mask f.green f.bits g valid.green small_g))
    (within_mask f.blue f.bits b valid.blue small_b) in
    let number : ℕ = r * 2 ^ f.red.shift + g * 2 ^ f.green.shift + b * 2 ^ f.blue.shift in
    record {
      below = subst (λ (m : ℕ). m < 2 ^ f.bits) t.sum or_below;
      red = found valid.red.full.0 f.red.shift f.red.max r number valid.red.full.2 t.first;
      green = found valid.green.full.0 f.green.shift f.green.max g number valid.green.full.2 t.second;
      blue = found valid.blue.full.0 f.blue.shift f.blue.max b number valid.blue.full.2 t.third;
    }

-- the colour of a pixel of this number
pub color_found : (f : Format) (c : Color) (bytes : List ℕ) → Shifted f c.r c.g c.b → pixel_number f bytes ≡ color_number f c → pixel_color f bytes ≡ c
unfolding pixel_color
color_found f c bytes p e = rw (e, p.red, p.green, p.blue) refl

-- a pixel's number has at most 32 bits
pub below_32 : (bits n : ℕ) → (bits ≡ 8) ⊎ ((bits ≡ 16) ⊎ (bits ≡ 32)) → n < 2 ^ bits → n < 2 ^ 32
below_32 bits n (inl e) below = let b : n < 2 ^ 8 = subst (λ (k : ℕ). n < 2 ^ k) e below in omega arith
below_32 bits n (inr (inl e)) below = let b : n < 2 ^ 16 = subst (λ (k : ℕ). n < 2 ^ k) e below in omega arith
below_32 bits n (inr (inr e)) below = subst (λ (k : ℕ). n < 2 ^ k) e below

pub below_16 : (bits n : ℕ) → (bits ≡ 8) ⊎ ((bits ≡ 16) ⊎ (bits ≡ 32)) → bits / 8 ≤ 2 → n < 2 ^ bits → n < 2 ^ 16
below_16 bits n (inl e) short below = let b : n < 2 ^ 8 = subst (λ (k : ℕ). n < 2 ^ k) e below in omega arith
below_16 bits n (inr (inl e)) short below = subst (λ (k : ℕ). n < 2 ^ k) e below
below_16 bits n (inr (inr e)) short below = absurd (omega arith)
