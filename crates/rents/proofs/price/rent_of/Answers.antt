-- `price::rent_of` meets its contract: K and M, then the raw bytes are within the limits. Assumes nothing.
use Rattle.rents.proofs.PriceLaws.{prices}
use Rattle.rents.proofs.price.rent_of.Goals as goal

pub returns-then-not-shards_fit : goal.returns-then-not-shards_fit
returns-then-not-shards_fit c = search prices

pub returns-then-raw-gt8796093022208 : goal.returns-then-raw-gt8796093022208
returns-then-raw-gt8796093022208 c = search prices

pub returns : goal.returns
returns c = search prices
