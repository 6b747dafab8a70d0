-- The example and the files in which every field has another value: each is written as its words, and is read back.
use Rattle.std.specs.Prelude.{◌≡◌, refl}
use Rattle.std.proofs.Math.Option.{some}
use Rattle.rules.specs.Examples.{mainnet}
use Rattle.file_format.specs.Words.{bytes}
use Rattle.file_format.specs.File.{write_books, read_books, write_calls, read_calls}
use Rattle.file_format.specs.Example.{opened, opening, opening_words, example_calls, calls_words}
use Rattle.file_format.specs.Example.{varied_settings, varied_books, varied_words, all_calls, all_calls_words}

pub opening_written : write_books mainnet opening ≡ bytes opening_words
unfolding opened
opening_written = refl

pub opening_read : read_books (bytes opening_words) ≡ some (mainnet, opening)
unfolding opened
opening_read = refl

pub calls_written : write_calls example_calls ≡ bytes calls_words
unfolding opened
calls_written = refl

pub calls_read : read_calls (bytes calls_words) ≡ some example_calls
unfolding opened
calls_read = refl

pub varied_written : write_books varied_settings varied_books ≡ bytes varied_words
unfolding opened
varied_written = refl

pub varied_read : read_books (bytes varied_words) ≡ some (varied_settings, varied_books)
unfolding opened
varied_read = refl

pub all_calls_written : write_calls all_calls ≡ bytes all_calls_words
unfolding opened
all_calls_written = refl

pub all_calls_read : read_calls (bytes all_calls_words) ≡ some all_calls
unfolding opened
all_calls_read = refl
