-- What an exported text says.
use Rattle.std.proofs.Common.{◌≡◌, ◌<◌, ◌^◌, ℕ, ◌+◌, ◌-◌, ◌*◌, List, [], ◌∷◌, ◌++◌, length, take, drop, zero, suc, true, refl, sym, ap, ◌∙◌, arith, append-nil, length-append}
use Rattle.std.specs.Prelude.{map}
use Rattle.std.proofs.Math.Nat.{mul-suc}
use Rattle.std.proofs.lemmas.Bool.{le-leb}
use Rattle.rect_data.specs.Grammar.{is_inside}
use Rattle.std.specs.List.{flat_map, AllByRecursion}
use Rattle.terms.specs.Area.{whole_area}
use Rattle.terms.specs.Reading.{Got}
use Rattle.pixel_format.specs.Canvas.{Picture}
use Rattle.client_wire.specs.Stream.{Part, IsPart, bytes_of}
use Rattle.terms.specs.declared.format.Format.TheVariants.{Two}
use Rattle.rfb_wire.specs.Grammar.{message_at, message_limit, Message, Recorded}
use Rattle.rfb_wire.specs.Host.{host_of}
use Rattle.rfb_wire.specs.declared.message.Rectangle.{Rectangle}
use Rattle.rfb_wire.proofs.Whole.{message-empty}
use Rattle.gated_journal.specs.Recording.{Head, IsHead}
use Rattle.keyed_entries.specs.Entry.{IsStampedFor}
use Rattle.keyed_entries.specs.declared.entry.Stamped.{Stamped}
use Rattle.fbs_export.specs.Blocks.{Block, Laid, block_at, data_of, times_of, is_start}
use Rattle.fbs_export.specs.Summary.{Said, Tells, IsSummary}
use Rattle.fbs_export.specs.Export.{start, block_text, opening_text, messages_text, less_first, row_text, rows_text}
use Rattle.fbs_export.proofs.Openings.{opening_is_read}
use Rattle.fbs_export.proofs.RoundTrip.{part_of, part_is_read, message_parts, messages_are_parts, host_part, host_parts_read, same_data, same_times, no_block}
use Rattle.fbs_export.proofs.Times.{last_time_of, after_times}

starts : (more : List ℕ) → is_start (take 12 (start ++ more)) ≡ true
unfolding is_start
starts more = refl

pub opening_short : (h : Head) → IsHead h → length (opening_text h) < 2 ^ 32
unfolding opening_text
opening_short h is = omega (arith, is.name)

module _ (h : Head) (is : IsHead h) (screen : List ℕ) (rects : List Rectangle) (first : ℕ) (ms : List Stamped) where
  abbrev blocks : List (Part Block)
  blocks = part_of 0 (opening_text h) ∷ part_of 0 screen ∷ message_parts first ms

  abbrev text : List ℕ
  text = block_text 0 (opening_text h) ++ (block_text 0 screen ++ messages_text first ms)

  abbrev body : List ℕ
  body = screen ++ data_of (message_parts first ms)

  abbrev parts : List (Part Message)
  parts = record { message = Recorded rects; bytes = screen } ∷ map host_part ms

  abbrev said : Said
  said = record {
    opening = record { width = h.width; height = h.height; name = h.name };
    messages = record { time = 0; message = host_of Two h.width h.height screen rects } ∷ less_first first ms;
    rest = 0;
  }

  text_is : text ≡ flat_map bytes_of blocks ++ []
  text_is = ap (λ z. block_text 0 (opening_text h) ++ (block_text 0 screen ++ z)) (messages_are_parts first ms) ∙ sym (append-nil (flat_map bytes_of blocks))

  laid : length screen < 2 ^ 32 → AllByRecursion (IsPart block_at) (message_parts first ms) → Laid (start ++ text) blocks []
  laid short all = record {
    start = starts text;
    reads = record {
      each = (part_is_read 0 (opening_text h) (opening_short h is) (omega arith), (part_is_read 0 screen short (omega arith), all));
      stream_is = text_is;
    };
    unfinished = no_block;
  }

  times_are : length (opening_text h ++ body) - length body ≡ length (opening_text h)
  times_are = omega (arith, length-append (opening_text h) body)

  tells : message_at (message_limit Two) h.width h.height screen ≡ Got (Recorded rects) [] → 0 < length screen → AllByRecursion (IsStampedFor h.format h.width h.height) ms
      → Tells (data_of blocks) (times_of blocks) said
  tells reads some all = record {
    body = body;
    opens = opening_is_read h body is;
    parts = parts;
    rest = [];
    reads = record {
      each = (reads, host_parts_read h.format h.width h.height ms all);
      stream_is = ap (λ z. screen ++ z) (same_data first ms) ∙ sym (append-nil (flat_map bytes_of parts));
    };
    waits = message-empty (message_limit Two) h.width h.height;
    messages_are = rw (
      times_are,
      after_times (length (opening_text h)) 0 (times_of (part_of 0 screen ∷ message_parts first ms)),
      last_time_of (length screen) 0 (times_of (message_parts first ms)) some,
      after_times (length screen) 0 (times_of (message_parts first ms)),
      ← same_times h.format h.width h.height first ms all,
    ) refl;
    rest_is = refl;
  }

  pub summary_is : length screen < 2 ^ 32 → 0 < length screen → message_at (message_limit Two) h.width h.height screen ≡ Got (Recorded rects) []
      → AllByRecursion (IsStampedFor h.format h.width h.height) ms → AllByRecursion (IsPart block_at) (message_parts first ms) → IsSummary (start ++ text) said
  summary_is short some reads all each = record { blocks = blocks; laid = laid short each; tells = tells reads some all }

pub all_take : {A : Type 0} (P : A → Type 0) (n : ℕ) (xs : List A) → AllByRecursion P xs → AllByRecursion P (take n xs)
all_take P zero xs all = tt
all_take P (suc n) [] all = tt
all_take P (suc n) (x ∷ xs) all = (all.0, all_take P n xs all.1)

pub all_drop : {A : Type 0} (P : A → Type 0) (n : ℕ) (xs : List A) → AllByRecursion P xs → AllByRecursion P (drop n xs)
all_drop P zero xs all = all
all_drop P (suc n) [] all = tt
all_drop P (suc n) (x ∷ xs) all = all_drop P n xs all.1

row_length : (picture : Picture) (y x n : ℕ) → length (row_text picture y x n) ≡ 4 * n
row_length picture y x zero = refl
row_length picture y x (suc n) = omega (arith, row_length picture y (x + 1) n)

pub pixels_from : (picture : Picture) (w y n : ℕ) → length (rows_text picture w y n) ≡ 4 * (w * n)
pixels_from picture w y zero = omega arith
pixels_from picture w y (suc n) =
    let one = length-append (row_text picture y 0 w) (rows_text picture w (y + 1) n) in
    omega (arith, one, row_length picture y 0 w, pixels_from picture w (y + 1) n, mul-suc w n)

pub whole_inside : (w h : ℕ) → is_inside w h (whole_area w h) ≡ true
unfolding is_inside
whole_inside w h = rw (le-leb (0 + w) w (omega arith), le-leb (0 + h) h (omega arith)) refl
