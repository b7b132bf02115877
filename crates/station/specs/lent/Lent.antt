-- A lent station is its eight places. Definitions only.
pub use Rattle.station.specs.Stations.{station_of}
