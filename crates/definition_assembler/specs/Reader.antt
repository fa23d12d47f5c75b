-- The reader of addresses, for any semantic actions: a sum is products joined by + and -, a product primaries joined by *. It goes forward through
-- the text, and hands on the left operand, so equal operators go from the left. Assumes nothing.
use Rattle.std.specs.Prelude.{ℕ, zero, suc, ◌+◌, ◌*◌, ◌-◌, Bool, cond, ◌&&◌, List, [], ◌∷◌, length, get_or, drop, leb, eqb}
use Rattle.definition_assembler.specs.Letters.{ascii}
use Rattle.definition_assembler.specs.Grammar.{Sum, Product, Primary, term, factor, digit_byte, digit_bytes}

-- what each production gives, from what its parts give
pub record Actions (A : Type 0) : Type 0 where
  pub of_number : ℕ → List ℕ → A  -- the bytes of a number, one or more
  pub of_group : A → A
  pub of_plus : A → A → A
  pub of_minus : A → A → A
  pub of_times : A → A → A

-- the left operand in the same sum or product, and the operator after it
pub data Left (A : Type 0) : Type 0 where
  Nothing : Left A
  Plus : A → Left A
  Minus : A → Left A
  Times : A → Left A

-- what is to be read, and from which place on
pub data Nonterminal (A : Type 0) : Type 0 where
  sum_at : ℕ → Left A → Nonterminal A
  product_at : ℕ → Left A → Nonterminal A
  primary_at : ℕ → Nonterminal A

-- what was read gives v, and n is the place after it
pub data Parsed (A : Type 0) : Type 0 where
  failed : Parsed A
  parsed : A → ℕ → Parsed A

abbrev pub is_digit : ℕ → Bool
is_digit b = leb (ascii "0") b && leb b (ascii "9")

-- the digits in front
unfoldable pub digits : List ℕ → List ℕ
digits [] = []
digits (b ∷ bs) = cond (is_digit b) (b ∷ digits bs) []

-- the text left and the level, as one number
unfoldable pub measure : {A : Type 0} → List ℕ → Nonterminal A → ℕ
measure t (sum_at at b) = 3 * (length t - at) + 2
measure t (product_at at b) = 3 * (length t - at) + 1
measure t (primary_at at) = 3 * (length t - at)

module _ {A : Type 0} (M : Actions A) where
  abbrev pub combined : Left A → A → A
  combined Nothing v = v
  combined (Plus u) v = M.of_plus u v
  combined (Minus u) v = M.of_minus u v
  combined (Times u) v = M.of_times u v

  abbrev pub number_at : List ℕ → ℕ → Parsed A
  number_at [] at = failed
  number_at (b ∷ bs) at = parsed (M.of_number b bs) (at + length (b ∷ bs))

  module _ (t : List ℕ) where
    abbrev pub closed : Parsed A → Parsed A
    closed failed = failed
    closed (parsed v n) = cond (eqb (get_or t n 0) (ascii ")")) (parsed (M.of_group v) (n + 1)) failed

    module _ (read : Nonterminal A → Parsed A) where
      -- v is read up to n: an operator and more, or the end
      abbrev pub sum_on : A → ℕ → Parsed A
      sum_on v n =
          cond (eqb (get_or t n 0) (ascii "+")) (read (sum_at (n + 1) (Plus v)))
          (cond (eqb (get_or t n 0) (ascii "-")) (read (sum_at (n + 1) (Minus v))) (parsed v n))

      abbrev pub product_on : A → ℕ → Parsed A
      product_on v n = cond (eqb (get_or t n 0) (ascii "*")) (read (product_at (n + 1) (Times v))) (parsed v n)

      abbrev pub sum_after : Left A → Parsed A → Parsed A
      sum_after b failed = failed
      sum_after b (parsed v n) = sum_on (combined b v) n

      abbrev pub product_after : Left A → Parsed A → Parsed A
      product_after b failed = failed
      product_after b (parsed v n) = product_on (combined b v) n

      -- one step of the reader, given a reader for what is within
      abbrev pub step : Nonterminal A → Parsed A
      step (sum_at at b) = sum_after b (read (product_at at Nothing))
      step (product_at at b) = product_after b (read (primary_at at))
      step (primary_at at) =
          cond (eqb (get_or t at 0) (ascii "(")) (closed (read (sum_at (at + 1) Nothing))) (number_at (digits (drop at t)) at)

  -- at most f nonterminals within one another
  unfoldable pub parse_within : ℕ → List ℕ → Nonterminal A → Parsed A
  parse_within zero t k = failed
  parse_within (suc f) t k = step t (λ j. parse_within f t j) k

  unfoldable pub parse : List ℕ → Nonterminal A → Parsed A
  parse t k = parse_within (suc (measure t k)) t k

  -- what the actions give for a tree
  unfoldable mutual
    pub of_sum : Sum → A
    of_sum (term p) = of_product p
    of_sum (Sum.plus s p) = M.of_plus (of_sum s) (of_product p)
    of_sum (Sum.minus s p) = M.of_minus (of_sum s) (of_product p)

    pub of_product : Product → A
    of_product (factor q) = of_primary q
    of_product (Product.times p q) = M.of_times (of_product p) (of_primary q)

    pub of_primary : Primary → A
    of_primary (Primary.number d ds) = M.of_number (digit_byte d) (digit_bytes ds)
    of_primary (Primary.group s) = M.of_group (of_sum s)
