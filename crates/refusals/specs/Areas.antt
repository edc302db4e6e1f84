-- The areas: the word of each, and which numbers its refusals have.
use Rattle.std.specs.Prelude.{◌≡◌, ◌≤◌, ◌⊎◌, ℕ, List, codes}
use Rattle.refusals.specs.declared.area.Area.{Area}
use Rattle.refusals.specs.declared.area.Area.TheVariants as area
use Rattle.refusals.specs.declared.refusal.Refusal.{Refusal}
use Rattle.refusals.specs.declared.refusal.Refusal.TheVariants as refusal
use Rattle.key_index.specs.declared.faults.IndexFault.TheVariants as index

-- the word that names an area in a refusal's line
abbrev pub word_of : Area → List ℕ
word_of area.Journal = codes "journal"
word_of area.Index = codes "index"
word_of area.Replay = codes "replay"
word_of area.Digest = codes "digest"
word_of area.Migrate = codes "migrate"
word_of area.Salvage = codes "salvage"
word_of area.Export = codes "export"
word_of area.Fbs = codes "fbs"
word_of area.Wire = codes "wire"
word_of area.Host = codes "host"
word_of area.Book = codes "book"
word_of area.File = codes "file"
word_of area.Net = codes "net"
word_of area.Thread = codes "thread"

-- the number is one of an area's refusals
abbrev pub IsNumberOf : Area → ℕ → Type 0
IsNumberOf area.Journal number = (1 ≤ number) × (number ≤ 5)
IsNumberOf area.Index number = (1 ≤ number) × (number ≤ 5)
IsNumberOf area.Replay number = (1 ≤ number) × (number ≤ 3)
IsNumberOf area.Digest number = (1 ≤ number) × (number ≤ 2)
IsNumberOf area.Migrate number = (1 ≤ number) × (number ≤ 6)
IsNumberOf area.Salvage number = (1 ≤ number) × (number ≤ 5)
IsNumberOf area.Export number = (1 ≤ number) × (number ≤ 5)
IsNumberOf area.Fbs number = (1 ≤ number) × (number ≤ 9)
IsNumberOf area.Wire number = (1 ≤ number) × (number ≤ 9)
IsNumberOf area.Host number = ((1 ≤ number) × (number ≤ 9)) ⊎ ((20 ≤ number) × (number ≤ 24))
IsNumberOf area.Book number = (1 ≤ number) × (number ≤ 4)
IsNumberOf area.File number = (1 ≤ number) × (number ≤ 2)
IsNumberOf area.Net number = number ≡ 1
IsNumberOf area.Thread number = number ≡ 1

-- the part that refuses
abbrev pub area_of : Refusal → Area
area_of refusal.File = area.File
area_of refusal.Hidden = area.File
area_of (refusal.Recording (index.Journal fault)) = area.Journal
area_of (refusal.Recording fault) = area.Index
area_of (refusal.Create fault) = area.Journal
area_of refusal.Device = area.Journal
area_of (refusal.Screen fault) = area.Replay
area_of (refusal.Digest fault) = area.Digest
area_of (refusal.Export fault) = area.Export
area_of (refusal.Migrate fault) = area.Migrate
area_of (refusal.Salvage fault) = area.Salvage
area_of (refusal.Fbs fault) = area.Fbs
area_of (refusal.Host fault) = area.Host
area_of (refusal.Book why) = area.Book
area_of refusal.Net = area.Net
area_of refusal.Thread = area.Thread
