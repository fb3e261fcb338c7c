-- `Decoder::raw` meets its contract: the test chooses the part as the definition does.
use borrow.Author.Tests.{lt-ltb, le-ltb}
use Rattle.decode.specs.Decoded.{raw_by}
use Rattle.decode.proofs.decoder.Decoder.raw.Goals as goal

pub returns-then-n-self : goal.returns-then-n-self
unfolding raw_by
returns-then-n-self c = rw (lt-ltb _ _ c.if-n-self.true)

pub returns : goal.returns
unfolding raw_by
returns c = rw (le-ltb _ _ c.if-n-self.false, c.scaled.ensures)
