-- Recorded messages in a stream.
use Rattle.std.proofs.Common.{◌≡◌, ℕ, List, [], ◌∷◌, ◌++◌, refl, sym, ap, ◌∙◌}
use Rattle.std.proofs.lemmas.List.{append-nil}
use Rattle.terms.specs.Reading.{Got}
use Rattle.terms.specs.declared.format.Format.{Format}
use Rattle.client_wire.specs.Stream.{Part, Reads}
use Rattle.rfb_wire.specs.Grammar.{message_at, message_limit, Message, Recorded}
use Rattle.rfb_wire.specs.Host.{Host}
use Rattle.rfb_wire.specs.Stream.{IsFor}
use Rattle.rfb_wire.proofs.Local.{message_local}

-- a message is what its bytes are read as
pub message_reads : (format : Format) (width height : ℕ) (m : Host) (bytes : List ℕ) → IsFor format width height m → m.bytes ≡ bytes
    → message_at (message_limit format) width height bytes ≡ Got (Recorded m.rectangles) []
message_reads format width height m bytes is same =
    let whole : message_at (message_limit format) width height m.bytes ≡ Got (Recorded m.rectangles) [] =
    rw (← is.format_is, ← is.width_is, ← is.height_is) is.recorded in
    ap (message_at (message_limit format) width height) (sym same) ∙ whole

-- a message is read from the front of any bytes that it begins
pub message_again : (format : Format) (width height : ℕ) (m : Host) (more : List ℕ) → IsFor format width height m
    → message_at (message_limit format) width height (m.bytes ++ more) ≡ Got (Recorded m.rectangles) more
message_again format width height m more is =
    let local = message_local (message_limit format) width height m.bytes more in
    rw (message_reads format width height m m.bytes is refl) at local

-- messages of one format and size are the same if their bytes and rectangles are
pub same_host : (m n : Host) → m.format ≡ n.format → m.width ≡ n.width → m.height ≡ n.height → m.bytes ≡ n.bytes → m.rectangles ≡ n.rectangles → m ≡ n
same_host m n f a b c d =
    let same : record { format = m.format; width = m.width; height = m.height; bytes = m.bytes; rectangles = m.rectangles } ≡ n = rw (f, a, b, c, d) refl in
    same

abbrev pub part_of : Host → List ℕ → Part Message
part_of m bytes = record { message = Recorded m.rectangles; bytes = bytes }

-- the stream that is one message
pub reads_one : (format : Format) (width height : ℕ) (m : Host) (bytes : List ℕ) → IsFor format width height m → m.bytes ≡ bytes
    → Reads (message_at (message_limit format) width height) bytes (part_of m bytes ∷ []) []
reads_one format width height m bytes is same = record {
  each = (message_reads format width height m bytes is same, tt);
  stream_is = sym (append-nil (bytes ++ []) ∙ append-nil bytes);
}
