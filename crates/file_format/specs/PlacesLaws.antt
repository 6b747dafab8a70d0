-- What is known of a file that was judged good, by places.
use Rattle.std.specs.Prelude.{◌≡◌, true, List, ℕ, ◌+◌, ◌*◌, ◌/◌, ◌%◌, ◌≤◌, ◌<◌, length, get_or, drop}
use Rattle.std.proofs.Math.Dec.{eqb}
use Rattle.lists.specs.Base.{when◌then◌else◌}
use Rattle.file_format.specs.Fields.{number, flag, field, first, second, third, many}
use Rattle.file_format.specs.Books.{validator, deposit, partial, consolidation}
use Rattle.file_format.specs.Places.{deposits_place, partials_place, consolidations_place, end_place, listed_ok}

-- byte j of a field
abbrev pub byte_at : List ℕ → ℕ → ℕ
byte_at ws j =
    let w = get_or ws (j / 3) 0 in
    when eqb (j % 3) 0 then first w else when eqb (j % 3) 1 then second w else third w

pub record Good (ws : List ℕ) : Type 0 where
  pub settings_good : (many number 19).ok (drop 1 ws) ≡ true
  pub scalars_good : (many number 9).ok (drop 58 ws) ≡ true
  pub validators_good : listed_ok validator 85 ws ≡ true
  pub deposits_good : listed_ok deposit (deposits_place ws) ws ≡ true
  pub partials_good : listed_ok partial (partials_place ws) ws ≡ true
  pub consolidations_good : listed_ok consolidation (consolidations_place ws) ws ≡ true
  -- it is as long as its counts say
  pub long : end_place ws ≤ length ws

-- the parts of a validator
pub record GoodValidator (ws : List ℕ) : Type 0 where
  pub key : (field 48).ok ws ≡ true
  pub credentials : (field 32).ok (drop 16 ws) ≡ true
  pub slashed : flag.ok (drop 27 ws) ≡ true
  pub numbers : (j : ℕ) → j < 6 → number.ok (drop (28 + j * 3) ws) ≡ true
