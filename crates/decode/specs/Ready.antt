-- What is kept of a setting while a strip is converted: its decoder and its table.
-- Assumes nothing.
use Rattle.std.specs.Prelude.{List, ◌≡◌, ℕ}
use Rattle.rules.specs.declared.Setting.{Setting}
use Rattle.rules.specs.Setting.{Valid}
use Rattle.rules.specs.Exact.{scale_of}
use Rattle.curve_table.specs.Table.{table_of}
use Rattle.decode.specs.declared.decoder.Decoder.{Decoder}
use Rattle.decode.specs.Decoded.{decoder_of}

pub record Ready (s : Setting) (d : Decoder) (t : List ℕ) : Type 0 where
  pub valid : Valid s
  pub decoder : d ≡ decoder_of (scale_of s)
  pub table : t ≡ table_of s
