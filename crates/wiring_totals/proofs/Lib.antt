mod CounterHubs
mod TotalLevels
