-- The rectangles of a recorded message lie within the screen, and their data within the message.
use Rattle.std.proofs.Common.{◌≡◌, ℕ, ◌+◌, ◌-◌, List, [], ◌∷◌, ◌++◌, length, take, drop, refl, sym, ap, ◌∙◌, subst, arith, append_assoc, length-append, inl, inr}
use Rattle.std.specs.List.{AllByRecursion}
use Rattle.std.specs.Prelude.{All, slice_range}
use Rattle.std.proofs.lemmas.List.{take_at, drop_at}
use Rattle.std.proofs.lemmas.List.Elements.{All-from_recursion}
use Rattle.pixel_format.specs.Format.{host_format}
use Rattle.rect_data.specs.Data.{AreData}
use Rattle.rfb_wire.specs.declared.message.Rectangle.{Rectangle}
use Rattle.rfb_wire.specs.Grammar.{message_limit}
use Rattle.rfb_wire.specs.Host.{Host, IsPlaced, IsRecorded}
use Rattle.rfb_wire.specs.Message.{IsRectangle, AreRectangles}
use Rattle.rfb_wire.proofs.Messages.{read_is_message}

-- the bytes between two offsets
between : (bytes front content rest : List ℕ) (start end : ℕ) → bytes ≡ front ++ (content ++ rest) → start ≡ length front → end ≡ start + length content
    → slice_range bytes start end ≡ content
between bytes front content rest start end is from to =
    let size : end - start ≡ length content = omega (arith, to) in
    ap (λ z. slice_range z start end) is
    ∙ ap (λ n. take n (drop start (front ++ (content ++ rest)))) size
    ∙ ap (λ z. take (length content) z) (drop_at front (content ++ rest) start (sym from))
    ∙ take_at content rest (length content) refl

-- a rectangle after a front of the message
rectangle_placed : (m : Host) (front first rest : List ℕ) (at : ℕ) (r : Rectangle) → m.bytes ≡ front ++ (first ++ rest) → length front ≡ at
    → IsRectangle m.width m.height at r first → IsPlaced m r
rectangle_placed m front first rest at r bytes_are front_is is =
    let parts : m.bytes ≡ (front ++ is.header) ++ (is.content ++ rest) =
    bytes_are ∙ ap (λ z. front ++ (z ++ rest)) is.bytes_are ∙ ap (λ z. front ++ z) (append_assoc is.header is.content rest) ∙ sym (append_assoc front is.header (is.content ++ rest)) in
    let start : r.start ≡ length (front ++ is.header) = is.start_is ∙ sym (length-append front is.header ∙ omega (arith, front_is, is.header_length)) in
    let all : length m.bytes ≡ length (front ++ is.header) + (length is.content + length rest) =
    ap length parts ∙ length-append (front ++ is.header) (is.content ++ rest) ∙ ap (λ z. length (front ++ is.header) + z) (length-append is.content rest) in
    let content = between m.bytes (front ++ is.header) is.content rest r.start r.end parts start is.end_is in
    record {
      within = is.within;
      ordered = omega (arith, is.end_is);
      in_bytes = omega (arith, is.end_is, start, all);
      content = subst (AreData host_format m.width m.height r.encoding r.area) (sym content) is.content_is;
    }

-- the offset at which the next rectangle begins
next_offset : (m : Host) (front first rest : List ℕ) (at : ℕ) (r : Rectangle) → length front ≡ at → IsRectangle m.width m.height at r first → length (front ++ first) ≡ r.end
next_offset m front first rest at r front_is is =
    length-append front first ∙ ap (λ z. length front + length z) is.bytes_are ∙ ap (λ z. length front + z) (length-append is.header is.content)
    ∙ omega (arith, front_is, is.header_length, is.start_is, is.end_is)

rectangles_placed : (m : Host) (front body : List ℕ) (at : ℕ) (rs : List Rectangle) → m.bytes ≡ front ++ body → length front ≡ at → AreRectangles m.width m.height at rs body
    → AllByRecursion (IsPlaced m) rs
rectangles_placed m front body at [] bytes_are front_is are = tt
rectangles_placed m front body at (r ∷ rs) bytes_are front_is (first, rest, is, whole, others) =
    let parts : m.bytes ≡ front ++ (first ++ rest) = bytes_are ∙ ap (λ z. front ++ z) is in (
      rectangle_placed m front first rest at r parts front_is whole,
      rectangles_placed m (front ++ first) rest r.end rs (parts ∙ sym (append_assoc front first rest)) (next_offset m front first rest at r front_is whole) others,
    )

-- each rectangle of a recorded message has its offsets
pub recorded_placed : (m : Host) → IsRecorded m → All (IsPlaced m) m.rectangles
recorded_placed m e =
    let is = read_is_message (message_limit m.format) m.width m.height m.bytes m.rectangles e in
    All-from_recursion (IsPlaced m) m.rectangles (elim is.kind [
      | inl u ↦ rectangles_placed m (0 ∷ (u.0).padding ∷ (u.0).high ∷ (u.0).low ∷ []) (u.0).body 4 m.rectangles (u.0).bytes_are refl (u.0).body_is
      | inr o ↦ subst (AllByRecursion (IsPlaced m)) (sym o.0) tt
    ])
