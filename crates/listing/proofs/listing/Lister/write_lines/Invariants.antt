use Rattle.std.proofs.Common.{◌≡◌, length}
use Rattle.memchr.specs.Find.{is_byte, places_between}
use Rattle.listing.specs.Lines.{Gone}
use Rattle.listing.specs.Lister.{SameLister}
use Rattle.listing.proofs.listing.Lister.write_lines.Given as goal

abbrev pub invariant-loop-feed : goal.invariant-loop-feed
invariant-loop-feed l = record {
  left : l.feed-iterator ≡ places_between (is_byte 10) l.input l.taken (length l.input);
  gone : Gone l.initial.self.kind l.input l.initial.out l.out l.taken l.written;
  same : SameLister l.initial.self l.self;
}
