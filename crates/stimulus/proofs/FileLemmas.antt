-- What a file is as a bench, by what its TOML document is.
use Rattle.std.proofs.Common.{◌≡◌, ℕ, Bool, true, false, List, Some, None, Err, refl, ap}
use Rattle.std.specs.Prelude.{if◌then◌else◌}
use Rattle.std.specs.Str.{IsUtf8, is_utf8}
use Rattle.std.proofs.lemmas.Str.{IsUtf8-from_is_utf8, is_utf8-from_IsUtf8}
use Rattle.toml.specs.Data.{Members}
use Rattle.toml.specs.Parse.{parse_document}
use Rattle.stimulus.specs.declared.refusals.BenchRefused.TheVariants.{NotToml}
use Rattle.stimulus.specs.Stimulus.{bench_in, bench_of, bench_of_file}

-- text that is a document is the bench of its root
pub bench_of_file-root : (bytes : List ℕ) (root : Members) → IsUtf8 bytes → parse_document bytes ≡ Some root → bench_of_file bytes ≡ bench_in root
unfolding bench_of_file
bench_of_file-root bytes root text document = rw (is_utf8-from_IsUtf8 bytes text, document) refl

-- bytes that are no document, be they text or not, are no bench
pub bench_of_file-no_document : (bytes : List ℕ) → (IsUtf8 bytes → parse_document bytes ≡ None) → bench_of_file bytes ≡ Err NotToml
unfolding bench_of_file
bench_of_file-no_document bytes none = by_test (is_utf8 bytes) refl
  where
    by_test : (text : Bool) → is_utf8 bytes ≡ text → (if text then bench_of (parse_document bytes) else Err NotToml) ≡ Err NotToml
    by_test true e = ap bench_of (none (IsUtf8-from_is_utf8 bytes e))
    by_test false e = refl
