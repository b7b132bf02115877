-- A look shows all held: lone motors that look the same are the same. It returns no motor, so it changes nothing. Assumes nothing.
use Rattle.std.proofs.Common.{◌≡◌, List, take, sym, ap, ◌∙◌}
use lib.Seq.{take-append_seam}
use Rattle.motor.specs.declared.motor.Seen.{Seen}
use Rattle.motor.specs.declared.readings.Entry.{Entry}
use Rattle.motor.specs.declared.readings.Listing.{Listing}
use Rattle.motor.specs.Lone.{Lone, lone_look}
use Rattle.motor.specs.Readings.{listing}

-- the readings are the first `count` of the entries shown, however many there are
abbrev pub shown : Listing → List Entry
shown s = take s.count s.entries

pub shown-listing : (l : List Entry) → shown (listing l) ≡ l
shown-listing l = take-append_seam l _

pub listing-injective : (l m : List Entry) → listing l ≡ listing m → l ≡ m
listing-injective l m e = sym (shown-listing l) ∙ ap shown e ∙ shown-listing m

-- what a look shows is enough to have the lone motor again
abbrev pub seen_as : Seen → Lone
seen_as s = record { state = s.state; readings = shown s.readings }

pub look-shows-all : (l : Lone) → seen_as (lone_look l) ≡ l
look-shows-all l = rw (shown-listing l.readings)

pub look-injective : (l m : Lone) → lone_look l ≡ lone_look m → l ≡ m
look-injective l m e = sym (look-shows-all l) ∙ ap seen_as e ∙ look-shows-all m
